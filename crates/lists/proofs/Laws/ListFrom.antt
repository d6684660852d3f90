-- Records put one after the other, `list_from` of `specs/ListFrom.antt`: what the bytes and the records of that list are.
--     Sized W bs               each of bs has as many bytes as a record
--     from-length, from-records     how many bytes, and how many records
--     from_down              the bytes at each place are these, the last record first
--     from_back              so the records of the list are these
--     from_bytes             they are bytes
--     from-accepted          the list is taken
-- Assumes nothing.
use mathlib.Core.Path.{◌≡◌, refl, sym, ap, ap₂, ◌∙◌, subst}
use mathlib.Core.List.{List, [], ◌∷◌, map}
use mathlib.Core.List.Memᴰ.{head as here}
use mathlib.Core.List.Memᴰ.{tail as there}
use mathlib.Core.List.{Memᴰ as Mem}
use Prim.Native.Nat.{ℕ, ◌+◌, ◌*◌, ◌/◌, ◌%◌, ◌≤◌, ◌<◌}
use native.Mathlib.Nat.{suc-mul, mul-le-mul_right, mul-pos, mul-div_cancel, mul-mod_left}
use native.Mathlib.Omega.{arith}
use lib.ListN.{length, take, length-append}
use lib.Seq.{drop_at, take_all}
use Rattle.laws.specs.Limits.{Width}
use Rattle.laws.specs.Lists.{Once}
use Rattle.laws.specs.Orders.{down_to}
use Rattle.laws.specs.Widths.{WidthFacts}
use Rattle.laws.proofs.Down.{down_ext}
use Rattle.laws.proofs.Split.{part_front}
use Rattle.cluster.specs.Reading.{KeepsBytes}
use Rattle.lists.specs.Records.{records_in, bytes_at}
use Rattle.lists.specs.ListFrom.{list_from, records_down, cluster_in}
use Rattle.lists.specs.Accepted.{Bytes, Accepted}
use Rattle.lists.proofs.Laws.Bytes.{append-bytes}
use Rattle.lists.proofs.Laws.RecordBytes.{records-kept_iff, records-once_iff}

pub from_bytes : (bs : List (List ℕ)) → ((b : List ℕ) → Mem b bs → Bytes b) → Bytes (list_from bs)
from_bytes [] h = λ i. omega arith
from_bytes (b ∷ bs) h = append-bytes (list_from bs) b (from_bytes bs (λ x m. h x (there m))) (h b (here refl))

module _ (W : Width) where
  abbrev pub Sized : List (List ℕ) → Type 0
  Sized bs = (b : List ℕ) → Mem b bs → length b ≡ W.record_bytes

  pub from-length : (bs : List (List ℕ)) → Sized bs → length (list_from bs) ≡ length bs * W.record_bytes
  from-length [] h = omega arith
  from-length (b ∷ bs) h =
      length-append (list_from bs) b
      ∙ ap₂ (λ (m n : ℕ). m + n) (from-length bs (λ x m. h x (there m))) (h b (here refl))
      ∙ sym (suc-mul (length bs) W.record_bytes)

  -- ---- the records: the last is the first of bs, and those before it are the others
  module _ (b : List ℕ) (bs : List (List ℕ)) (h : Sized (b ∷ bs)) where
    abbrev size : ℕ
    size = W.record_bytes

    rest_length : length (list_from bs) ≡ length bs * size
    rest_length = from-length bs (λ x m. h x (there m))

    last_bytes : bytes_at W (list_from (b ∷ bs)) (length bs) ≡ b
    last_bytes =
        ap (take size) (drop_at (list_from bs) b (length bs * size) rest_length) ∙ take_all size b (omega (arith, h b (here refl)))

    rest_bytes : (j : ℕ) → j < length bs → bytes_at W (list_from (b ∷ bs)) j ≡ bytes_at W (list_from bs) j
    rest_bytes j k = part_front (list_from bs) b (j * size) size (omega (arith, rest_length, suc-mul j size, mul-le-mul_right size k))

  pub from_down : (bs : List (List ℕ)) → Sized bs → down_to (bytes_at W (list_from bs)) (length bs) ≡ bs
  from_down [] h = refl
  from_down (b ∷ bs) h =
      ap₂ (λ (x : List ℕ) (xs : List (List ℕ)). x ∷ xs) (last_bytes b bs h)
      (down_ext (bytes_at W (list_from (b ∷ bs))) (bytes_at W (list_from bs)) (length bs) (rest_bytes b bs h)
      ∙ from_down bs (λ x m. h x (there m)))

module _ (W : Width) (facts : WidthFacts W) (bs : List (List ℕ)) (sized : Sized W bs) where
  size_pos : 0 < W.record_bytes
  size_pos = omega (arith, facts.spare)

  pub from-records : records_in W (list_from bs) ≡ length bs
  from-records = ap (λ (n : ℕ). n / W.record_bytes) (from-length W bs sized) ∙ mul-div_cancel (length bs) size_pos

  pub from_back : records_down W (list_from bs) ≡ bs
  from_back = ap (down_to (bytes_at W (list_from bs))) from-records ∙ from_down W bs sized

  pub from-accepted : 1 ≤ length bs → length bs * W.record_bytes ≤ W.list_bytes → ((b : List ℕ) → Mem b bs → KeepsBytes W b)
      → Once (map (cluster_in W) bs) → Accepted W (list_from bs)
  from-accepted some few kept once = record {
    filled = λ (e : length (list_from bs) ≡ 0). omega (arith, from-length W bs sized, mul-pos some size_pos);
    short = rw (from-length W bs sized) few;
    whole = ap (λ (n : ℕ). n % W.record_bytes) (from-length W bs sized) ∙ mul-mod_left (length bs) W.record_bytes;
    kept = (records-kept_iff W (list_from bs)).1 (λ b m. kept b (subst (Mem b) from_back m));
    once = (records-once_iff W (list_from bs)).1
        (subst (λ (xs : List (List ℕ)). Once (map (cluster_in W) xs)) (sym from_back) once);
  }
