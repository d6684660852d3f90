-- Printed lines told apart by their bytes, and the count as it is printed.
--     tree-not-refused, seven_not_eight     no line of a tree is that of a refusal, and that of 7 isn't that of 8
--     count_printed     the count and mark of a row, as they are printed
-- Assumes nothing.
use mathlib.Core.Path.{◌≡◌, sym, ap, ◌∙◌, subst}
use mathlib.Core.Logic.{◌⊎◌, inl, inr, ◌≢◌}
use mathlib.Core.Bool.{Bool, true, false, cond}
use mathlib.Core.List.{List, ◌∷◌, ◌++◌, append_assoc}
use Prim.Native.Nat.{ℕ, ◌≤◌, ◌<◌}
use native.Mathlib.Omega.{arith}
use lib.Dec.{T, eqb, leb, leb→le, le→leb}
use lib.IntN.{ℤ}
use lib.ListN.{length, get_or}
use Rattle.laws.specs.Limits.{narrow}
use Rattle.laws.specs.Lists.{every}
use Rattle.laws.specs.Row.{Row}
use Rattle.laws.proofs.Split.{append-same}
use Rattle.laws.proofs.Tests.{T_and, cond_true, cond_false}
use Rattle.trees.specs.Result.{Result}
use Rattle.trees.proofs.Counting.Capped.{past}
use Rattle.shapes.specs.Characters.{characters}
use Rattle.shapes.specs.Decimal.{figure, decimal}
use Rattle.shapes.proofs.Decimal.{is_figure, decimal-figures, decimal-some, decimal-one}
use Rattle.report.specs.Words.{signed, count_word, place_word, refused_words, refused_line, tree_line}
use Rattle.report.proofs.Laws.Words.{count_word-one, count_word-many}
use Rattle.demands.specs.Sending.{sent_back}
use Rattle.demands.specs.Trees.{TellsTrees, printed_count}

-- ---- lines of trees and of refusals

-- a count starts with a figure or an m, a refusal with an r
count_start : (c m : ℕ) (l : List ℕ) → get_or (count_word c m ++ l) 0 0 ≢ 114
count_start c m l = go (eqb m 1)
  where
    go : (b : Bool) → get_or (cond b (characters "many") (decimal c) ++ l) 0 0 ≢ 114
    go true e = absurd (omega (arith, e))
    go false e = at (decimal-some c)
      where
        at : (b : ℕ) × (r : List ℕ) × (decimal c ≡ b ∷ r) → ⊥
        at q =
            let first : get_or (decimal c ++ l) 0 0 ≡ q.0 = ap (λ (x : List ℕ). get_or (x ++ l) 0 0) q.2 in
            let figure = (T_and (is_figure q.0) _ (subst (λ (x : List ℕ). T (every is_figure x)) q.2 (decimal-figures c))).0 in
            omega (arith, first, e, leb→le q.0 57 (T_and (leb 48 q.0) (leb q.0 57) figure).1)

-- what follows the degree bound in a line
abbrev weight_on : ℤ → List ℕ → List ℕ
weight_on best text = characters " " ++ (signed best ++ (characters " " ++ (text ++ characters "\n")))

abbrev tree_rest : ℕ → ℕ → ℤ → List ℕ → List ℕ
tree_rest c m best text = characters " " ++ (count_word c m ++ weight_on best text)

abbrev refused_rest : ℕ → ℕ → List ℕ
refused_rest n p = characters " " ++ refused_words (sent_back n p)

tree_split : (d c m : ℕ) (best : ℤ) (text : List ℕ) → tree_line d c m best text ≡ decimal d ++ tree_rest c m best text
tree_split d c m best text = simp append_assoc

refused_split : (d n p : ℕ) → refused_line d (sent_back n p) ≡ decimal d ++ refused_rest n p
refused_split d n p = append_assoc (decimal d) (characters " ") (refused_words (sent_back n p))

pub tree-not-refused : (d c m : ℕ) (best : ℤ) (text : List ℕ) (n p : ℕ) → tree_line d c m best text ≢ refused_line d (sent_back n p)
tree-not-refused d c m best text n p e =
    count_start c m (weight_on best text)
    (ap (λ (x : List ℕ). get_or x 1 0) (append-same (decimal d) (tree_rest c m best text) (refused_rest n p)
    (sym (tree_split d c m best text) ∙ e ∙ refused_split d n p)))

-- the figure of a refusal's number
figure_at : (n : ℕ) → n < 10 → get_or (refused_rest n 0) 9 0 ≡ figure n
figure_at n h = ap (λ (x : List ℕ). get_or (characters " refused " ++ x ++ place_word n 0 ++ characters "\n") 9 0) (decimal-one n h)

pub seven_not_eight : (d : ℕ) → refused_line d (sent_back 7 0) ≢ refused_line d (sent_back 8 0)
seven_not_eight d e =
    let same = append-same (decimal d) (refused_rest 7 0) (refused_rest 8 0) (sym (refused_split d 7 0) ∙ e ∙ refused_split d 8 0) in
    omega (arith, ap (λ (x : List ℕ). get_or x 9 0) same, figure_at 7 (omega arith), figure_at 8 (omega arith))

-- ---- the count as it is printed

pub count_printed : (ts : List (List ℕ)) (rs : List Row) (v : Result) → TellsTrees narrow rs ts v
    → count_word v.count v.mark ≡ printed_count narrow (length ts)
count_printed ts rs v k = go (past narrow.count_max (length ts))
  where
    go : (length ts ≤ narrow.count_max) ⊎ (narrow.count_max < length ts) → count_word v.count v.mark ≡ printed_count narrow (length ts)
    go (inl h) =
        count_word-one v.count v.mark (λ e. omega (arith, e, k.exact.1 h))
        ∙ ap decimal (k.count h)
        ∙ sym (cond_true (leb (length ts) narrow.count_max) (decimal (length ts)) (characters "many")
        (le→leb (length ts) narrow.count_max h))
    go (inr h) =
        count_word-many v.count v.mark (k.many.1 h)
        ∙ sym (cond_false (leb (length ts) narrow.count_max) (decimal (length ts)) (characters "many")
        (λ t. omega (arith, leb→le (length ts) narrow.count_max t)))
