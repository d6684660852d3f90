-- The search is the sum over the tuples, for every lawful kind of result. Nothing here says how the search goes.
--     summing             a lawful kind has the laws that the search needs
--     search_is           the search is the sum over the covers
--     search_tuples       the search of a row, asked of the rows beneath it, is the sum over its tuples
-- Assumes nothing.
use mathlib.Core.Path.{◌≡◌, refl, sym, ap, ap₂, ◌∙◌}
use mathlib.Core.List.{List, [], ◌∷◌, map, reverse, reverse-cons, Memᴰ as Mem}
use Prim.Native.Nat.{ℕ, ◌-◌, ◌<◌}
use Rattle.laws.specs.Lists.{keep}
use Rattle.laws.proofs.Keep.{mem_of_keep}
use Rattle.laws.proofs.Descends.{Descends}
use Rattle.trees.specs.Rows.{Entry, cl, sc}
use Rattle.trees.specs.Tuple.{tuples}
use Rattle.trees.specs.Kind.{Kind, prod_k, over_tuples}
use Rattle.trees.specs.Cover.{covers_of}
use Rattle.trees.proofs.Formula.Kind.{Lawful}
use Rattle.trees.proofs.Searching.Covers.{tuples_are_covers}
use Rattle.trees.proofs.Searching.Search.{search}
use Rattle.trees.proofs.Searching.SearchOrder.{Summing, over_append, search_in_order}

module _ {A : Type 0} (k : Kind A) (law : Lawful k) where
  pub summing : Summing k
  summing = record {
    none-plus = λ x. law.plus_comm k.none x ∙ law.plus_none x;
    plus_none = law.plus_none;
    plus_assoc = law.plus_assoc;
    times_none = law.times_none;
    times-unit = law.times-unit;
    times-plus = law.times-plus;
  }

  over_reverse : (τs : List (List (Entry A))) → over_tuples k (reverse τs) ≡ over_tuples k τs
  over_reverse [] = refl
  over_reverse (τ ∷ τs) =
      ap (over_tuples k) (reverse-cons τ τs)
      ∙ over_append k summing (reverse τs) (τ ∷ [])
      ∙ ap₂ k.plus (over_reverse τs) (law.plus_none (prod_k k τ))
      ∙ law.plus_comm (over_tuples k τs) (prod_k k τ)

  over_tuples_lem : (d C : ℕ) (es : List (Entry A)) → 0 < C → ((x : Entry A) → Mem x es → cl x < C)
      → over_tuples k (covers_of (d - 1) C (keep sc es)) ≡ over_tuples k (tuples d C (keep sc es))
  over_tuples_lem d C es p f =
      ap (over_tuples k) (sym (tuples_are_covers d C (keep sc es) p (λ x m. f x (mem_of_keep sc es m).0)))

  -- ---- the search

  pub search_is : (n R : ℕ) (es : List (Entry A)) → Descends (map cl es) → 0 < R
      → search k n R es ≡ over_tuples k (covers_of n R (keep sc es))
  search_is n R es h p = search_in_order k summing n R es h p ∙ over_reverse (covers_of n R (keep sc es))

  pub search_tuples : (d C : ℕ) (es : List (Entry A)) → Descends (map cl es) → 0 < C → ((x : Entry A) → Mem x es → cl x < C)
      → search k (d - 1) C es ≡ over_tuples k (tuples d C (keep sc es))
  search_tuples d C es h p f = search_is (d - 1) C es h p ∙ over_tuples_lem d C es p f
