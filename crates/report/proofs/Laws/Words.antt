-- The words of a line by their cases, and how long a line can be.
--     begun                              bytes added to a text that is another are added to that
--     signed_neg, signed_pos             a weight, by its sign
--     signed_printed                     what the library prints of a weight
--     count_word-many, count_word-one      a count, by its mark
--     place_word_bad, place_word_repeated, place_word_sheet, place_word-none     a place, by the refusal's number
--     best_max                            no tree weighs more, either way
--     tree_line-length-le                 the line of a tree has 24 bytes more than its text at most
--     refused_words-length-le             the words of a refusal have 43
--     refused_line-length-le              and its line 54
-- Assumes nothing.
use mathlib.Core.Path.{◌≡◌, ap, ◌∙◌}
use mathlib.Core.Bool.{Bool, true, false, cond}
use mathlib.Core.List.{List, [], ◌++◌}
use Prim.Native.Nat.{ℕ, suc, ◌+◌, ◌-◌, ◌*◌, ◌^◌, ◌≤◌, ◌<◌}
use native.Mathlib.Omega.{arith}
use borrow.Author.Tests.{eq-eqb, ne_eqb}
use lib.Dec.{eqb, ltb, ltb→lt}
use lib.IntN.{ℤ, pos, negsuc, nat_abs}
use lib.ListN.{length, length-append}
use lib.Signed.{lt_z}
use mir.Syntax.{w64}
use mir.Val.{SFits}
use Rattle.std.specs.Fmt.{signed_decimal as printed}
use Rattle.texts.proofs.Laws.{decimal_printed}
use Rattle.laws.proofs.Tests.{T_false}
use Rattle.laws.specs.Limits.{narrow, weight_max}
use Rattle.std.specs.Prelude.{Err}
use Rattle.answers.specs.declared.refusal.Refusal.{Refusal}
use Rattle.answers.specs.Refusal.{number_of, position_of, sent_of}
use Rattle.answers.proofs.Laws.Refusal.{number-le}
use Rattle.shapes.specs.Characters.{characters}
use Rattle.shapes.specs.Decimal.{decimal}
use Rattle.shapes.proofs.Decimal.{decimal-length-le}
use Rattle.texts.specs.declared.text.Text.{Text}
use Rattle.texts.specs.Text.{with_bytes}
use Rattle.report.specs.Words.{signed, count_word, has_position, place_word, refused_words, refused_line, tree_line}

-- ---- the start of a line

pub begun : (l : List ℕ) {t r s : Text} → r ≡ t → s ≡ with_bytes r l → s ≡ with_bytes t l
begun l p q = q ∙ ap (λ (x : Text). with_bytes x l) p

-- ---- the cases

pub signed_neg : (z : ℤ) → lt_z z (pos 0) ≡ true → signed z ≡ characters "-" ++ decimal (nat_abs z)
signed_neg z e = rw e

pub signed_pos : (z : ℤ) → lt_z z (pos 0) ≡ false → signed z ≡ decimal (nat_abs z)
signed_pos z e = rw e

pub signed_printed : (z : ℤ) → SFits w64 z → printed z ≡ signed z
signed_printed (pos n) h = rw (T_false (ltb n 0) (λ t. omega (arith, ltb→lt n 0 t))) (decimal_printed n (omega (arith, h)))
signed_printed (negsuc n) h = ap (λ (l : List ℕ). characters "-" ++ l) (decimal_printed (suc n) (omega (arith, h)))

pub count_word-many : (c m : ℕ) → m ≡ 1 → count_word c m ≡ characters "many"
count_word-many c m e = rw (eq-eqb m 1 e)

pub count_word-one : (c m : ℕ) → (m ≡ 1 → ⊥) → count_word c m ≡ decimal c
count_word-one c m n = rw (ne_eqb m 1 n)

pub place_word_bad : (n p : ℕ) → n ≡ 5 → place_word n p ≡ characters " at " ++ decimal p
place_word_bad n p e = rw e

pub place_word_repeated : (n p : ℕ) → n ≡ 6 → place_word n p ≡ characters " at " ++ decimal p
place_word_repeated n p e = rw e

pub place_word_sheet : (n p : ℕ) → n ≡ 12 → place_word n p ≡ characters " at " ++ decimal p
place_word_sheet n p e = rw e

pub place_word-none : (n p : ℕ) → (n ≡ 5 → ⊥) → (n ≡ 6 → ⊥) → (n ≡ 12 → ⊥) → place_word n p ≡ []
place_word-none n p h k m = rw (ne_eqb n 5 h, ne_eqb n 6 k, ne_eqb n 12 m)

-- ---- lengths

-- the weights of all members of a tree
abbrev pub best_max : ℕ
best_max = (2 * narrow.taxa - 1) * weight_max

signed-length-le : (z : ℤ) → nat_abs z ≤ best_max → length (signed z) ≤ 9
signed-length-le z h = go (lt_z z (pos 0))
  where
    go : (b : Bool) → length (cond b (characters "-" ++ decimal (nat_abs z)) (decimal (nat_abs z))) ≤ 9
    go true = omega (arith, decimal-length-le 7 (nat_abs z) (omega arith))
    go false = omega (arith, decimal-length-le 7 (nat_abs z) (omega arith))

count_word-length-le : (c m : ℕ) → c ≤ narrow.count_max → length (count_word c m) ≤ 10
count_word-length-le c m h = go (eqb m 1)
  where
    go : (b : Bool) → length (cond b (characters "many") (decimal c)) ≤ 10
    go true = omega arith
    go false = decimal-length-le 9 c (omega arith)

pub tree_line-length-le : (d c m : ℕ) (best : ℤ) (text : List ℕ) → d < 10 → c ≤ narrow.count_max → nat_abs best ≤ best_max
    → length (tree_line d c m best text) ≤ length text + 24
tree_line-length-le d c m best text h k w =
    let first = decimal-length-le 0 d h in
    let second = count_word-length-le c m k in
    let third = signed-length-le best w in
    simp length-append (omega arith)

place_word-length-le : (n p : ℕ) → p < 2 ^ 64 → length (place_word n p) ≤ 24
place_word-length-le n p h = go (has_position n)
  where
    go : (b : Bool) → length (cond b (characters " at " ++ decimal p) []) ≤ 24
    go true = omega (arith, decimal-length-le 19 p (omega arith))
    go false = omega arith

pub refused_words-length-le : (f : Refusal) → position_of f < 2 ^ 64 → length (refused_words (sent_of (Err f))) ≤ 43
refused_words-length-le f k =
    let number = number-le f in
    let first = decimal-length-le 9 (number_of f) (omega arith) in
    let second = place_word-length-le (number_of f) (position_of f) k in
    simp length-append (omega arith)

pub refused_line-length-le : (d : ℕ) (f : Refusal) → d < 2 ^ 32 → position_of f < 2 ^ 64 → length (refused_line d (sent_of (Err f))) ≤ 54
refused_line-length-le d f h k =
    let first = decimal-length-le 9 d (omega arith) in
    let rest = refused_words-length-le f k in
    let split = length-append (decimal d ++ characters " ") (refused_words (sent_of (Err f))) in
    omega (arith, split, length-append (decimal d) (characters " "))
