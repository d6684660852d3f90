-- What the rules demand of trees and tables (RULES 12), each under one name, for every degree bound, width and limit.
--     worked_is_built (Built.antt)      demand 2: the row worked out from tuples is the row defined by trees
--     none_iff, count_iff               "no tree" exactly where there is none, and count zero exactly then
--     best-some                         else one is found
--     best-is_tree, best-first, best-only     the best is a tree, comes before every other, and is the only one that does
--     best-heaviest                     and no tree is heavier
--     put_facts                         changed rows are rows as before
--     rescore_is_build                  demand 3: rescoring a built table is the build of the changed rows
--     rescore_keeps_rows                and no row changes that doesn't contain the rescored cluster, in any table
-- The tie rule as a strict total order stands in `Ties/TieRule.antt`, the search in `Searching/SearchSum.antt` and
-- `Searching/TuplesMet.antt`, the bounds in `Bounds/TupleBound.antt` and `Bounds/TreeSize.antt`.
-- Assumes nothing.
use mathlib.Core.Path.{◌≡◌, refl, sym, ap, ◌∙◌, subst}
use mathlib.Core.Logic.{◌⊎◌, inl, inr, ◌≢◌, ◌↔◌}
use mathlib.Core.Option.{Option, none, some, none-ne-some}
use mathlib.Core.List.Memᴰ
use mathlib.Core.List.{List, [], ◌∷◌, map}
use mathlib.Core.List.{Memᴰ as Mem}
use Prim.Native.Nat.{ℕ, suc, ◌≤◌, ◌<◌, ◌^◌}
use native.Mathlib.Omega.{arith}
use lib.Dec.{T}
use lib.IntN.{ℤ}
use lib.ListN.{length}
use lib.Signed.{lt_z}
use Rattle.laws.specs.Limits.{Width}
use Rattle.laws.specs.Lists.{sublists}
use Rattle.laws.specs.Orders.{Falling}
use Rattle.laws.specs.Row.{Row}
use Rattle.laws.proofs.Integers.{lt_z_trans, lt_z_irrefl}
use Rattle.trees.specs.Rows.{clusters_of, scored_in, Entry, RowFacts}
use Rattle.trees.specs.Tree.{trees_on}
use Rattle.trees.specs.Heaviest.{weight_of, comes_first, first_heaviest}
use Rattle.trees.specs.Result.{Result, count_field}
use Rattle.trees.specs.Built.{built_table}
use Rattle.trees.specs.Rescored.{put_score, worked_out, rescored}
use Rattle.trees.specs.Kind.{worked_from}
use Rattle.trees.proofs.Ties.KeyOrder.{Before, before→}
use Rattle.trees.proofs.Ties.FirstHeaviest.{set_key, comes_is_key, first_some, first-mem, first-before, first-only}
use Rattle.trees.proofs.Counting.Capped.{past, count_small, count_large}
use Rattle.trees.proofs.Built.{sets, nonzero, worked_is_built}
use Rattle.trees.proofs.Rescore.{put-cluster, put-clusters, others, rescore_other, rescore_is_table}

-- ---- demand 2: the best of a row

module _ (w d : ℕ) (rs : List Row) (f : RowFacts w rs) (C : ℕ) where
  abbrev trees : List (List ℕ)
  trees = trees_on w d (scored_in rs) C

  -- a tree is found exactly where there is one
  pub none_iff : (first_heaviest rs trees ≡ none) ↔ (trees ≡ [])
  none_iff = (to trees (sets w d rs f C), λ e. ap (first_heaviest rs) e)
    where
      to : (ts : List (List ℕ)) → ((xs : List ℕ) → Mem xs ts → Mem xs (sublists (clusters_of rs))) → first_heaviest rs ts ≡ none → ts ≡ []
      to [] s e = refl
      to (xs ∷ ts) s e =
          let q = first_some rs f.falls (nonzero w d rs f) xs ts s in
          absurd (none-ne-some q.0 (sym e ∙ q.1))

  pub best-some : trees ≢ [] → (xs : List ℕ) × (first_heaviest rs trees ≡ some xs)
  best-some n = go (first_heaviest rs trees) refl
    where
      go : (x : Option (List ℕ)) → first_heaviest rs trees ≡ x → (xs : List ℕ) × (first_heaviest rs trees ≡ some xs)
      go none e = absurd (n (none_iff.0 e))
      go (some xs) e = (xs, e)

  module _ (xs : List ℕ) (found : first_heaviest rs trees ≡ some xs) where
    pub best-is_tree : Mem xs trees
    best-is_tree = first-mem rs f.falls (nonzero w d rs f) trees (sets w d rs f C) xs found

    pub best-first : (ys : List ℕ) → Mem ys trees → (xs ≡ ys) ⊎ T (comes_first rs xs ys)
    best-first = first-before rs f.falls (nonzero w d rs f) trees (sets w d rs f C) xs found

    pub best-heaviest : (ys : List ℕ) → Mem ys trees → T (lt_z (weight_of rs xs) (weight_of rs ys)) → ⊥
    best-heaviest ys m h = go (best-first ys m)
      where
        at : Before (set_key rs xs) (set_key rs ys) → ⊥
        at (Before.heavier l) = lt_z_irrefl (weight_of rs xs) (lt_z_trans (weight_of rs xs) (weight_of rs ys) (weight_of rs xs) h l)
        at (Before.level e l) = lt_z_irrefl (weight_of rs xs) (subst (λ (z : ℤ). T (lt_z (weight_of rs xs) z)) (sym e) h)

        go : (xs ≡ ys) ⊎ T (comes_first rs xs ys) → ⊥
        go (inl e) = lt_z_irrefl (weight_of rs xs) (subst (λ (zs : List ℕ). T (lt_z (weight_of rs xs) (weight_of rs zs))) (sym e) h)
        go (inr t) =
            at (before→ (set_key rs xs) (set_key rs ys)
            (subst T (comes_is_key rs f.falls (nonzero w d rs f) xs ys (sets w d rs f C xs best-is_tree) (sets w d rs f C ys m)) t))

  pub best-only : (zs : List ℕ) → Mem zs trees → ((ys : List ℕ) → Mem ys trees → (zs ≡ ys) ⊎ T (comes_first rs zs ys))
      → first_heaviest rs trees ≡ some zs
  best-only zs m h = first-only rs f.falls (nonzero w d rs f) trees (sets w d rs f C) zs m h

  -- a count field is zero exactly where the count is
  pub count_iff : (limit : ℕ) → 1 ≤ limit → (count_field limit (length trees) ≡ 0) ↔ (trees ≡ [])
  count_iff limit p = (to trees, λ e. ap (λ (ts : List (List ℕ)). count_field limit (length ts)) e ∙ (count_small limit 0 (omega arith)).0)
    where
      to : (ts : List (List ℕ)) → count_field limit (length ts) ≡ 0 → ts ≡ []
      to [] e = refl
      to (xs ∷ ts) e = absurd (go (past limit (suc (length ts))))
        where
          go : (suc (length ts) ≤ limit) ⊎ (limit < suc (length ts)) → ⊥
          go (inl l) = omega (arith, (count_small limit (suc (length ts)) l).0, e)
          go (inr l) = omega (arith, (count_large limit (suc (length ts)) l).0, e)

-- ---- demand 3: rescoring

module _ (W : Width) (d : ℕ) (c : ℕ) (z : ℤ) (s : ℕ) (rs : List Row) where
  pub put_facts : (w : ℕ) → RowFacts w rs → RowFacts w (map (put_score c z s) rs)
  put_facts w f = record { falls = subst Falling (sym (put-clusters c z s rs)) f.falls; fits = fits }
    where
      fits : (q : Row) → Mem q (map (put_score c z s) rs) → (q.cluster ≢ 0) × (q.cluster < 2 ^ w)
      fits q m =
          let x = Memᴰ.of_map (put_score c z s) rs m in
          let same = sym (put-cluster c z s x.0) ∙ ap (λ (r : Row). r.cluster) x.2 in
          subst (λ (n : ℕ). (n ≢ 0) × (n < 2 ^ w)) same (f.fits x.0 x.1)

  pub rescore_is_build : 1 ≤ W.count_max → RowFacts W.taxa rs
      → rescored W d (clusters_of rs) c z s (built_table W d rs) ≡ built_table W d (map (put_score c z s) rs)
  rescore_is_build p f =
      ap (rescored W d (clusters_of rs) c z s) (sym (worked_is_built W p d rs f))
      ∙ rescore_is_table W d (clusters_of rs) c z s rs
      ∙ ap (λ (cs : List ℕ). worked_from (worked_out W d cs) (map (put_score c z s) rs)) (sym (put-clusters c z s rs))
      ∙ worked_is_built W p d (map (put_score c z s) rs) (put_facts W.taxa f)

pub rescore_keeps_rows : (W : Width) (d : ℕ) (cs : List ℕ) (c : ℕ) (z : ℤ) (s : ℕ) (t : List (Entry Result))
    → others (worked_out W d cs) c (rescored W d cs c z s t) ≡ others (worked_out W d cs) c t
rescore_keeps_rows = rescore_other
