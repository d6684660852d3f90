-- Texts in the making.
--     with_nil                 no byte more
--     with_append              bytes one after another are all of them at once
--     with_joined              which reads a call on what another gave as one
--     with_then                so it is of what two calls gave, one after the other
--     with_copied              bytes copied to the place where the text ends, as many as there is room for
--     decimal_printed          what the library prints of a number are its figures
--     with_held, text_held     a text of bytes, with more added, is that of the first of them all that there is room for; from no bytes on,
--                              it is that of what was added
--     begun_fits               such a text has no more bytes than there is room for
--     text-front, text-fits, text-count     the bytes that a text holds are the first of its array
-- Assumes nothing.
use mathlib.Core.Path.{◌≡◌, refl, sym, ap, ap₂, ◌∙◌}
use mathlib.Core.List.{List, [], ◌∷◌, ◌++◌, append_assoc, append-nil}
use Prim.Native.Nat.{ℕ, zero, suc, ◌+◌, ◌-◌, ◌%◌, ◌^◌, ◌≤◌, ◌<◌, min}
use native.Mathlib.Decide.{dec_le}
use native.Mathlib.Nat.{add-zero, sub-zero}
use native.Mathlib.Omega.{arith}
use borrow.Rule.Slice.PartMut.{put_mid}
use lib.ListN.{length, length-append, length-take, replicate, length-replicate, replicate-append-replicate}
use lib.ListN.{take, drop, drop_of_length-le}
use lib.Seq.{drop-drop, take_all, take_at, drop_at, take-nil, take-length, length-take-le}
use lib.Seq.{paste-zero, take-append_seam, drop-append-add}
use Rattle.std.specs.Fmt.{decimal as printed}
use Rattle.std.proofs.lemmas.Fmt.{decimal_by_steps}
use Rattle.std.proofs.lemmas.List.{take_min}
use Rattle.std.proofs.lemmas.Slice.{put_mid-paste}
use Rattle.shapes.specs.Decimal.{figure, decimal}
use Rattle.shapes.proofs.Decimal.{decimal-one, decimal_high}
use Rattle.texts.specs.declared.text.Text.{Text}
use Rattle.texts.specs.Text.{text_cap, holding, longer, with_bytes}

abbrev made : List ℕ → ℕ → Text
made l n = record { bytes = l; size = n }

-- ---- bytes stored over others from a place on, which may lie past their end

abbrev over : List ℕ → ℕ → List ℕ → List ℕ
over d at p = take at d ++ p ++ drop (at + length p) d

over_past : (d p : List ℕ) (at : ℕ) → length d ≤ at → over d at p ≡ d ++ p
over_past d p at h =
    let far : length d ≤ at + length p = omega arith in
    rw (take_all at d h, drop_of_length-le d far) (append-nil (d ++ p))

over_append : (d p q : List ℕ) (at : ℕ) → over d at (p ++ q) ≡ over (over d at p) (at + length p) q
over_append d p q at = go (dec_le at (length d))
  where
    end : ℕ
    end = at + length p

    front : List ℕ
    front = take at d ++ p

    go : Dec (at ≤ length d) → over d at (p ++ q) ≡ over (over d at p) end q
    go (yes h) =
        let long : length front ≡ end = length-append (take at d) p ∙ ap (λ (n : ℕ). n + length p) (length-take-le at d h) in
        let size : end + length q ≡ at + length (p ++ q) = omega (arith, length-append p q) in
        let back = ap (drop (length q)) (drop_at front (drop end d) end long) in
        sym (ap₂ (λ (a b : List ℕ). a ++ q ++ b) (take_at front (drop end d) end long)
        (sym (drop-drop (length q) end (over d at p)) ∙ back ∙ drop-drop (length q) end d)
        ∙ ap₂ (λ (a : List ℕ) (n : ℕ). a ++ drop n d) (append_assoc (take at d) p q) size)
    go (no h) =
        let past : length d ≤ at = omega arith in
        over_past d (p ++ q) at past ∙ sym (append_assoc d p q)
        ∙ sym (ap (λ (x : List ℕ). over x end q) (over_past d p at past) ∙ over_past (d ++ p) q end (omega (arith, length-append d p)))

longer-nil : (t : Text) → longer t [] ≡ t
longer-nil t = ap₂ made (sym (paste-zero t.bytes t.size [])) (add-zero t.size)

longer-append : (t : Text) (p q : List ℕ) → longer t (p ++ q) ≡ longer (longer t p) q
longer-append t p q = ap₂ made (over_append t.bytes p q t.size) (omega (arith, length-append p q))

-- ---- as many bytes as there is room for

take-append : (k : ℕ) (a b : List ℕ) → take k (a ++ b) ≡ take k a ++ take (k - length (take k a)) b
take-append zero a b = refl
take-append (suc k) [] b = rw sub-zero refl
take-append (suc k) (x ∷ a) b =
    let less : k - length (take k a) ≡ suc k - suc (length (take k a)) = omega arith in
    ap (λ (l : List ℕ). x ∷ l) (take-append k a b ∙ ap (λ (n : ℕ). take k a ++ take n b) less)

pub with_nil : (t : Text) → with_bytes t [] ≡ t
unfolding with_bytes
with_nil t = ap (longer t) (take-nil (text_cap - t.size)) ∙ longer-nil t

pub with_append : (t : Text) (a b : List ℕ) → with_bytes t (a ++ b) ≡ with_bytes (with_bytes t a) b
unfolding with_bytes
with_append t a b =
    let room = text_cap - t.size in
    let first = take room a in
    let less : room - length first ≡ text_cap - (t.size + length first) = omega arith in
    ap (longer t) (take-append room a b ∙ ap (λ (n : ℕ). first ++ take n b) less) ∙ longer-append t first _

pub with_joined : (t : Text) (a b : List ℕ) → with_bytes (with_bytes t a) b ≡ with_bytes t (a ++ b)
with_joined t a b = sym (with_append t a b)

pub with_then : (t : Text) (a b : List ℕ) {r s : Text} → r ≡ with_bytes t a → s ≡ with_bytes r b → s ≡ with_bytes t (a ++ b)
with_then t a b p q = q ∙ ap (λ (x : Text). with_bytes x b) p ∙ sym (with_append t a b)

-- the bytes that there is room for, copied to the place where the text ends
module _ (t : Text) (l : List ℕ) {start n : ℕ} where
  with_fitting : start ≡ min t.size text_cap → n ≡ min (length l) (text_cap - start) → length t.bytes ≡ text_cap
      → record { bytes = over t.bytes start (take n l); size = t.size + length (take n l) } ≡ with_bytes t l
  unfolding with_bytes
  with_fitting s m long =
      let fitting : take n l ≡ take (text_cap - t.size) l =
      ap (λ (k : ℕ). take k l) (let k : n ≡ min (text_cap - t.size) (length l) = omega arith in k) ∙ take_min (text_cap - t.size) l in
      ap₂ made (go (dec_le t.size text_cap)) refl ∙ ap (longer t) fitting
    where
      go : Dec (t.size ≤ text_cap) → over t.bytes start (take n l) ≡ over t.bytes t.size (take n l)
      go (yes h) = let same : start ≡ t.size = omega arith in rw same refl
      go (no h) = over_past t.bytes (take n l) start (omega arith) ∙ sym (over_past t.bytes (take n l) t.size (omega arith))

  pub with_copied : {copied : List ℕ} → start ≡ min t.size text_cap → n ≡ min (length l) (text_cap - start) → length t.bytes ≡ text_cap
      → copied ≡ take n l
      → record { bytes = put_mid start (start + length (take n l) - start) t.bytes copied; size = t.size + length (take n l) } ≡ with_bytes t l
  with_copied {copied} s m long e =
      ap (λ (x : List ℕ). made x (t.size + length (take n l)))
      (put_mid-paste start (start + length (take n l) - start) t.bytes copied (take n l) (length (take n l)) e (omega arith) refl
      ∙ ap (λ (x : List ℕ). take start t.bytes ++ x ++ drop (start + length (take n l)) t.bytes) (take-length (take n l)))
      ∙ with_fitting s m long

-- ---- a number, as it is printed

pub decimal_printed : (n : ℕ) → n < 2 ^ 64 → printed n ≡ decimal n
decimal_printed =
    decimal_by_steps (λ n l. l ≡ decimal n) (λ n h. sym (decimal-one n h))
    (λ n l h e. ap (λ (tenth : List ℕ). tenth ++ (figure (n % 10) ∷ [])) e ∙ sym (decimal_high n h))

-- ---- a text with zeros behind its bytes

longer_held : (l m : List ℕ) → length (l ++ m) ≤ text_cap → longer (holding l) m ≡ holding (l ++ m)
longer_held l m h =
    ap₂ made
    (ap₂ (λ (a b : List ℕ). a ++ m ++ b) (take-append_seam l zeros) (drop-append-add l zeros (length m) ∙ left))
    (sym (length-append l m))
  where
    zeros : List ℕ
    zeros = replicate (text_cap - length l) 0

    rest : ℕ
    rest = text_cap - length (l ++ m)

    left : drop (length m) zeros ≡ replicate rest 0
    left =
        let split : text_cap - length l ≡ length m + rest = omega (arith, length-append l m) in
        ap (λ (n : ℕ). drop (length m) (replicate n 0)) split
        ∙ ap (drop (length m)) (sym (replicate-append-replicate (length m) rest 0))
        ∙ drop_at (replicate (length m) 0) (replicate rest 0) (length m) (length-replicate (length m) 0)

pub with_held : (l m : List ℕ) → length l ≤ text_cap → with_bytes (holding l) m ≡ holding (take text_cap (l ++ m))
unfolding with_bytes
with_held l m h =
    let first = take (text_cap - length l) m in
    let whole : take text_cap (l ++ m) ≡ l ++ first =
    take-append text_cap l m ∙ ap (λ (x : List ℕ). x ++ take (text_cap - length x) m) (take_all text_cap l h) in
    longer_held l first (omega (arith, length-append l first, length-take (text_cap - length l) m)) ∙ ap holding (sym whole)

pub text_held : (l : List ℕ) → length l ≤ text_cap → with_bytes (holding []) l ≡ holding l
text_held l h = with_held [] l (omega arith) ∙ ap holding (take_all text_cap l h)

pub begun_fits : (l : List ℕ) → (with_bytes (holding []) l).size ≤ text_cap
begun_fits l = omega (arith, ap (λ (t : Text). t.size) (with_held [] l (omega arith)), length-take text_cap l)

module _ {t : Text} (l : List ℕ) (e : t ≡ holding l) where
  pub text-front : take t.size t.bytes ≡ l
  text-front = ap (λ (x : Text). take x.size x.bytes) e ∙ take_at l (replicate (text_cap - length l) 0) (length l) refl

  pub text-fits : t.size ≤ length t.bytes
  text-fits =
      let size = ap (λ (x : Text). x.size) e in
      omega (arith, ap (λ (x : Text). length x.bytes) e, length-append l (replicate (text_cap - length l) 0))

  pub text-count : t.size ≡ length (take t.size t.bytes)
  text-count = ap (λ (x : Text). x.size) e ∙ ap length (sym text-front)
