-- The definition's test of a tree, as the row of tests that the code makes: it asks in one chain whether all are inside and nest.
--     are_nested, has_taxon, has_taxa, are_few     the tests by name
--     is_tree-nested, is_tree-top, is_tree-taxa, is_tree-few     the tests in turn
--     is_tree_by               all of them, with the look-up of the top cluster in the words of `contains`
--     taxon_shift              taxon i as a shift makes it
--     taxa-more, taxa_stop     the one-taxon clusters, upward: one that passes, and one that doesn't
--     taxa_upward              all of them, upward
-- Assumes nothing.
use mathlib.Core.Path.{◌≡◌, refl, sym, ap, ap₂, ◌∙◌}
use mathlib.Core.Bool.{Bool, true, false, not, ◌&&◌, ◌||◌, and-false, and-true, and_comm}
use mathlib.Core.List.{List, [], ◌∷◌, map}
use Prim.Native.Nat.{ℕ, zero, suc, ◌+◌, ◌-◌, ◌*◌, ◌%◌, ◌^◌, ◌<◌}
use native.Mathlib.Decide.{ℕ_discrete}
use native.Mathlib.Nat.{one-mul, mod-eq_of_lt, zero-add}
use native.Mathlib.Numerals.{add-one}
use native.Mathlib.Omega.{arith}
use lib.Dec.{eqb, leb}
use lib.ListN.{length}
use lib.Pow.{pow-lt}
use Rattle.std.specs.List.{list_all, list_any, range_with_len}
use Rattle.std.proofs.lemmas.List.Folds.{list_all-append}
use Rattle.std.proofs.lemmas.List.FromFn.{map-range_with_len_more}
use Rattle.laws.specs.Cluster.{inside, nested, single, taxa}
use Rattle.laws.specs.Limits.{narrow, word_values}
use Rattle.laws.specs.Lists.{every, elem}
use Rattle.laws.proofs.Keep.{every-and}
use Rattle.trees.specs.Tree.{children, is_tree}
use Rattle.laws.proofs.Chains.{elem_is}

-- ---- the tests in turn: where those before pass and one fails, the whole fails; where three pass, the last decides
abbrev pub are_nested : ℕ → List ℕ → Bool
are_nested c xs = every (λ (a : ℕ). inside a c && every (λ (b : ℕ). nested a b) xs) xs

abbrev pub has_taxon : ℕ → List ℕ → ℕ → Bool
has_taxon c xs u = not (inside u c) || elem u xs

abbrev pub has_taxa : ℕ → ℕ → List ℕ → Bool
has_taxa w c xs = every (has_taxon c xs) (taxa w)

abbrev pub are_few : ℕ → List ℕ → Bool
are_few d xs = every (λ (m : ℕ). single m || leb (length (children xs m)) (d - 1)) xs

-- the fourth of five tests made with the first
fourth_first : (a b c d e : Bool) → (a && b && c && d && e) ≡ ((a && d) && b && c && e)
fourth_first true true true true e = refl
fourth_first true true true false e = refl
fourth_first true true false true e = refl
fourth_first true true false false e = refl
fourth_first true false c true e = refl
fourth_first true false c false e = refl
fourth_first false b c d e = refl

module _ (w d c : ℕ) (xs : List ℕ) where
  is_tree_is : is_tree w d c xs ≡ (are_nested c xs && elem c xs && has_taxa w c xs && are_few d xs)
  unfolding is_tree
  is_tree_is =
      fourth_first (every (λ (m : ℕ). inside m c) xs) (elem c xs) (has_taxa w c xs) (every (λ (a : ℕ). every (λ (b : ℕ). nested a b) xs) xs)
      (are_few d xs)
      ∙ ap (λ (b : Bool). b && elem c xs && has_taxa w c xs && are_few d xs)
      (sym (every-and (λ (m : ℕ). inside m c) (λ (a : ℕ). every (λ (b : ℕ). nested a b) xs) xs))

  pub is_tree-nested : are_nested c xs ≡ false → is_tree w d c xs ≡ false
  is_tree-nested e = is_tree_is ∙ rw e refl

  pub is_tree-top : are_nested c xs ≡ true → elem c xs ≡ false → is_tree w d c xs ≡ false
  is_tree-top e f = is_tree_is ∙ rw (e, f) refl

  pub is_tree-taxa : are_nested c xs ≡ true → elem c xs ≡ true → has_taxa w c xs ≡ false → is_tree w d c xs ≡ false
  is_tree-taxa e f g = is_tree_is ∙ rw (e, f, g) refl

  pub is_tree-few : are_nested c xs ≡ true → elem c xs ≡ true → has_taxa w c xs ≡ true → is_tree w d c xs ≡ are_few d xs
  is_tree-few e f g = is_tree_is ∙ rw (e, f, g) refl

  pub is_tree_by : is_tree w d c xs ≡ (are_nested c xs && list_any (λ (x : ℕ). eqb x c) xs && has_taxa w c xs && are_few d xs)
  is_tree_by = is_tree_is ∙ ap (λ (b : Bool). are_nested c xs && b && has_taxa w c xs && are_few d xs) (sym (elem_is c xs))

-- ---- the one-taxon clusters, upward
-- taxon i as a shift makes it
pub taxon_shift : (i : ℕ) → i < narrow.taxa → 1 * 2 ^ i % word_values ≡ 2 ^ i
taxon_shift i h = ap (λ (x : ℕ). x % word_values) (one-mul (2 ^ i)) ∙ mod-eq_of_lt (omega (arith, pow-lt h))

module _ (p : ℕ → Bool) where
  pub taxa-more : (i : ℕ) {u : ℕ} → u ≡ 2 ^ i → every p (taxa i) ≡ true → p u ≡ true → every p (taxa (i + 1)) ≡ true
  taxa-more i e h k = rw (add-one i, ← e, k, h)

  pub taxa_stop : (w i : ℕ) {u : ℕ} → u ≡ 2 ^ i → i < w → p u ≡ false → every p (taxa w) ≡ false
  taxa_stop zero i e l h = absurd (omega arith)
  taxa_stop (suc w) i e l h = go (ℕ_discrete i w) (λ k. taxa_stop w i e k h)
    where
      go : Dec (i ≡ w) → (i < w → every p (taxa w) ≡ false) → every p (taxa (suc w)) ≡ false
      go (yes q) f = ap (λ (b : Bool). b && every p (taxa w)) (ap p (ap (λ (k : ℕ). 2 ^ k) (sym q) ∙ sym e) ∙ h)
      go (no d) f = ap (λ (b : Bool). p (2 ^ w) && b) (f (omega arith)) ∙ and-false (p (2 ^ w))

  pub taxa_upward : (w : ℕ) → every p (taxa w) ≡ list_all p (map (λ (i : ℕ). 2 ^ i) (range_with_len 0 w))
  taxa_upward zero = refl
  taxa_upward (suc w) =
      let upward : List ℕ = map (λ (i : ℕ). 2 ^ i) (range_with_len 0 w) in
      and_comm (p (2 ^ w)) (every p (taxa w))
      ∙ ap₂ (λ (a b : Bool). a && b) (taxa_upward w) (sym (and-true (p (2 ^ w))))
      ∙ sym (list_all-append p upward (2 ^ w ∷ []))
      ∙ ap (list_all p) (sym (map-range_with_len_more (λ (i : ℕ). 2 ^ i) 0 w w (zero-add w)))
      ∙ ap (λ (n : ℕ). list_all p (map (λ (i : ℕ). 2 ^ i) (range_with_len 0 n))) (add-one w)
