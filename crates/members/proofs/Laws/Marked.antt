-- The marked rows one by one.
--     marked_takes, marked_skips         one row more, marked or not
--     mem-marked, falling_marked         which rows they are; the last stands first
--     scored_skips, scored_takes         one row more: not marked; marked, and scored or not
--     scored_stops                       one of them is marked and not scored
--     mem-members                        each is the cluster of a marked row
--     falling_members                    where the rows ascend, so do the members
-- Assumes nothing.
use mathlib.Core.Path.{◌≡◌, refl, sym, ap, ◌∙◌, subst}
use mathlib.Core.Bool.{Bool, true, false, ◌&&◌}
use mathlib.Core.List.Memᴰ
use mathlib.Core.List.{List, [], ◌∷◌, map}
use mathlib.Core.List.Memᴰ.{head as here}
use mathlib.Core.List.Memᴰ.{tail as there}
use mathlib.Core.List.{Memᴰ as Mem}
use Prim.Native.Nat.{ℕ, ◌+◌, ◌<◌}
use native.Mathlib.Numerals.{add-one}
use lib.Dec.{T}
use lib.ListN.{get_or}
use Rattle.laws.specs.Lists.{every}
use Rattle.laws.specs.Orders.{Falling, places}
use Rattle.laws.specs.State.{scored}
use Rattle.laws.proofs.Appended.{mem_of_reverse}
use Rattle.laws.proofs.Down.{mem_down, down_mem, down_falling}
use Rattle.laws.proofs.Falling.{in_turn_keep}
use Rattle.laws.proofs.Keep.{mem-keep, mem_of_keep, every→}
use Rattle.laws.proofs.Tests.{T_false, true_T}
use Rattle.kept.specs.Marks.{has_mark}
use Rattle.members.specs.Marked.{marked_to, members_to, scored_to}

-- ---- the marked rows
module _ (m : ℕ) where
  pub marked_takes : (i : ℕ) → has_mark m i ≡ true → marked_to m (i + 1) ≡ i ∷ marked_to m i
  marked_takes i e = rw (add-one i, e)

  pub marked_skips : (i : ℕ) → has_mark m i ≡ false → marked_to m (i + 1) ≡ marked_to m i
  marked_skips i e = rw (add-one i, e)

  pub mem-marked : (n i : ℕ) → Mem i (marked_to m n) → (i < n) × T (has_mark m i)
  mem-marked n i k =
      let q = mem_of_keep (has_mark m) (places n) k in
      let s = mem_down (λ (i : ℕ). i) n i q.0 in
      (rw s.2 s.1, q.1)

  pub falling_marked : (n : ℕ) → Falling (marked_to m n)
  falling_marked n =
      in_turn_keep (λ (c x : ℕ). x < c) (has_mark m) (places n) (down_falling (λ (i : ℕ). i) n (λ j k h l. h))

-- ---- whether they are scored
module _ (ss : List ℕ) (m i : ℕ) where
  abbrev are_scored : List ℕ → Bool
  are_scored l = every (λ (i : ℕ). scored (get_or ss i 0)) l

  pub scored_skips : has_mark m i ≡ false → scored_to ss m (i + 1) ≡ scored_to ss m i
  scored_skips e = ap are_scored (marked_skips m i e)

  pub scored_takes : {b : Bool} → has_mark m i ≡ true → scored (get_or ss i 0) ≡ b → scored_to ss m (i + 1) ≡ (b && scored_to ss m i)
  scored_takes e k = ap are_scored (marked_takes m i e) ∙ ap (λ (b : Bool). b && scored_to ss m i) k

  pub scored_stops : (n : ℕ) → i < n → has_mark m i ≡ true → scored (get_or ss i 0) ≡ false → scored_to ss m n ≡ false
  scored_stops n h e k =
      let marked : Mem i (marked_to m n) = mem-keep (has_mark m) (places n) (down_mem (λ (i : ℕ). i) n i h) (true_T e) in
      T_false (scored_to ss m n) (λ all. subst T k (every→ (λ (i : ℕ). scored (get_or ss i 0)) (marked_to m n) all i marked))

-- ---- the members
-- images that fall where the numbers do
falling_map : (f : ℕ → ℕ) (l : List ℕ) → ((i j : ℕ) → Mem i l → Mem j l → i < j → f i < f j) → Falling l → Falling (map f l)
falling_map f [] up h = tt
falling_map f (x ∷ l) up h = (less, falling_map f l (λ i j a b. up i j (there a) (there b)) h.1)
  where
    less : (y : ℕ) → Mem y (map f l) → y < f x
    less y k = let q = Memᴰ.of_map f l k in rw (sym q.2) (up q.0 x (there q.1) (here refl) (h.0 q.0 q.1))

module _ (cs : List ℕ) (m : ℕ) where
  abbrev at : ℕ → ℕ
  at i = get_or cs i 0

  pub mem-members : (n x : ℕ) → Mem x (members_to cs m n) → (i : ℕ) × Mem i (marked_to m n) × (x ≡ get_or cs i 0)
  mem-members n x k =
      let q = Memᴰ.of_map at (marked_to m n) (mem_of_reverse (map at (marked_to m n)) k) in (q.0, q.1, sym q.2)

  pub falling_members : (n : ℕ) → ((i j : ℕ) → i < j → j < n → get_or cs i 0 < get_or cs j 0) → Falling (map at (marked_to m n))
  falling_members n up =
      falling_map at (marked_to m n) (λ i j a b h. up i j h (mem-marked m n j b).0) (falling_marked m n)
