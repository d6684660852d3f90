-- The one tree that is drawn, in words and by the definition that a row is stated with: `first_heaviest`.
--     found→, →found      a set is the first heaviest by weight and tie rule exactly where it is what is found
--     first_there         where there is a tree, one is
--     tells               the results of a row whose cluster has the trees ts, in words
-- Assumes nothing.
use mathlib.Core.Path.{◌≡◌, refl, sym, ap, ◌∙◌, subst}
use mathlib.Core.Logic.{◌⊎◌, inl, inr, ◌≢◌, ◌↔◌}
use mathlib.Core.Bool.{not, ◌&&◌}
use mathlib.Core.Option.{Option, none, some, some-injective}
use mathlib.Core.List.{List, []}
use mathlib.Core.List.{Memᴰ as Mem}
use Prim.Native.Nat.{ℕ, ◌≤◌, ◌<◌}
use native.Mathlib.Omega.{arith}
use lib.Dec.{T, not_T}
use lib.IntN.{ℤ, pos}
use lib.ListN.{length}
use lib.Signed.{lt_z}
use Rattle.laws.specs.Limits.{Width}
use Rattle.laws.specs.Row.{Row}
use Rattle.laws.proofs.Integers.{lt_z_irrefl, Tri, tri}
use Rattle.laws.proofs.Tests.{T_and, and_T, T-or, or_l, or_r}
use Rattle.trees.specs.Rows.{clusters_of, scored_in, RowFacts}
use Rattle.trees.specs.Tree.{trees_on}
use Rattle.trees.specs.Heaviest.{weight_of, tie_first, comes_first, first_heaviest}
use Rattle.trees.specs.Result.{Result, count_field, mark_field, marks_of}
use Rattle.trees.specs.Built.{with_best, tree_result}
use Rattle.trees.proofs.Counting.Capped.{past, count_small, count_large}
use Rattle.trees.proofs.Theorems.{best-some, best-is_tree, best-heaviest, best-first, best-only}
use Rattle.demands.specs.Trees.{FirstBy, TellsTrees}

-- ---- the first heaviest, in words

-- of two as heavy, the tie rule decides
tie_of : (rs : List Row) (ys zs : List ℕ) → weight_of rs zs ≡ weight_of rs ys → T (comes_first rs ys zs) → T (tie_first ys zs)
tie_of rs ys zs e h = go (T-or (lt_z (weight_of rs zs) (weight_of rs ys)) _ h)
  where
    go : T (lt_z (weight_of rs zs) (weight_of rs ys)) ⊎ T (not (lt_z (weight_of rs ys) (weight_of rs zs)) && tie_first ys zs) → T (tie_first ys zs)
    go (inl l) = absurd (lt_z_irrefl (weight_of rs ys) (subst (λ (z : ℤ). T (lt_z z (weight_of rs ys))) e l))
    go (inr k) = (T_and (not (lt_z (weight_of rs ys) (weight_of rs zs))) (tie_first ys zs) k).1

module _ (w d : ℕ) (rs : List Row) (f : RowFacts w rs) (C : ℕ) where
  abbrev trees : List (List ℕ)
  trees = trees_on w d (scored_in rs) C

  pub found→ : (ys : List ℕ) → first_heaviest rs trees ≡ some ys → FirstBy tie_first rs trees ys
  found→ ys e = record {
    tree = best-is_tree w d rs f C ys e;
    heaviest = best-heaviest w d rs f C ys e;
    first = λ zs m same. go zs same (best-first w d rs f C ys e zs m);
  }
    where
      go : (zs : List ℕ) → weight_of rs zs ≡ weight_of rs ys → (ys ≡ zs) ⊎ T (comes_first rs ys zs) → (zs ≡ ys) ⊎ T (tie_first ys zs)
      go zs same (inl q) = inl (sym q)
      go zs same (inr h) = inr (tie_of rs ys zs same h)

  pub →found : (ys : List ℕ) → FirstBy tie_first rs trees ys → first_heaviest rs trees ≡ some ys
  →found ys k = best-only w d rs f C ys k.tree (λ zs m. go zs m (tri (weight_of rs zs) (weight_of rs ys)))
    where
      ahead : (zs : List ℕ) → weight_of rs zs ≡ weight_of rs ys → (zs ≡ ys) ⊎ T (tie_first ys zs) → (ys ≡ zs) ⊎ T (comes_first rs ys zs)
      ahead zs same (inl q) = inl (sym q)
      ahead zs same (inr h) =
          let level = not_T (lt_z (weight_of rs ys) (weight_of rs zs))
          (λ l. lt_z_irrefl (weight_of rs ys) (subst (λ (z : ℤ). T (lt_z (weight_of rs ys) z)) same l)) in
          inr (or_r (lt_z (weight_of rs zs) (weight_of rs ys)) (not (lt_z (weight_of rs ys) (weight_of rs zs)) && tie_first ys zs)
          (and_T (not (lt_z (weight_of rs ys) (weight_of rs zs))) (tie_first ys zs) level h))

      go : (zs : List ℕ) → Mem zs trees → Tri (weight_of rs zs) (weight_of rs ys) → (ys ≡ zs) ⊎ T (comes_first rs ys zs)
      go zs m (Tri.less l) = inr (or_l (lt_z (weight_of rs zs) (weight_of rs ys)) _ l)
      go zs m (Tri.same q) = ahead zs q (k.first zs m q)
      go zs m (Tri.more l) = absurd (k.heaviest zs m l)

  pub first_there : trees ≢ [] → (ys : List ℕ) × FirstBy tie_first rs trees ys
  first_there n = let q = best-some w d rs f C n in (q.0, found→ q.0 q.1)

-- ---- what a row tells

module _ (W : Width) (rs : List Row) (n : ℕ) (ts : List (List ℕ)) where
  abbrev limit : ℕ
  limit = W.count_max

  abbrev told : Result
  told = tree_result W rs n ts

  with_count_lem : (c m : ℕ) (x : Option (List ℕ)) → ((with_best rs n c m x).count ≡ c) × ((with_best rs n c m x).mark ≡ m)
  with_count_lem c m none = (refl, refl)
  with_count_lem c m (some xs) = (refl, refl)

  count_is : told.count ≡ count_field limit (length ts)
  count_is = (with_count_lem (count_field limit (length ts)) (mark_field limit (length ts)) (first_heaviest rs ts)).0

  mark_is : told.mark ≡ mark_field limit (length ts)
  mark_is = (with_count_lem (count_field limit (length ts)) (mark_field limit (length ts)) (first_heaviest rs ts)).1

  exact : length ts ≤ limit → (told.count ≡ length ts) × (told.mark ≡ 0)
  exact h = let q = count_small limit (length ts) h in (count_is ∙ q.0, mark_is ∙ q.1)

  many : limit < length ts → (told.count ≡ limit) × (told.mark ≡ 1)
  many h = let q = count_large limit (length ts) h in (count_is ∙ q.0, mark_is ∙ q.1)

  mark-one : (told.mark ≡ 1) ↔ (limit < length ts)
  mark-one = (λ e. go e (past limit (length ts)), λ h. (many h).1)
    where
      go : told.mark ≡ 1 → (length ts ≤ limit) ⊎ (limit < length ts) → limit < length ts
      go e (inl h) = absurd (omega (arith, e, (exact h).1))
      go e (inr h) = h

  mark-none : (told.mark ≡ 0) ↔ (length ts ≤ limit)
  mark-none = (λ e. go e (past limit (length ts)), λ h. (exact h).1)
    where
      go : told.mark ≡ 0 → (length ts ≤ limit) ⊎ (limit < length ts) → length ts ≤ limit
      go e (inl h) = h
      go e (inr h) = absurd (omega (arith, e, (many h).1))

  by_found : (ys : List ℕ) → first_heaviest rs ts ≡ some ys → (told.best ≡ weight_of rs ys) × (told.members ≡ marks_of (clusters_of rs) ys)
  by_found ys e =
      let q = ap (with_best rs n (count_field limit (length ts)) (mark_field limit (length ts))) e in
      (ap (λ (v : Result). v.best) q, ap (λ (v : Result). v.members) q)

  by_none : ts ≡ [] → (told.best ≡ pos 0) × (told.members ≡ 0)
  by_none e =
      let q : told ≡ tree_result W rs n [] = ap (tree_result W rs n) e in
      (ap (λ (v : Result). v.best) q, ap (λ (v : Result). v.members) q)

  pub tells : ((ys : List ℕ) → FirstBy tie_first rs ts ys → first_heaviest rs ts ≡ some ys)
      → (ts ≢ [] → (ys : List ℕ) × FirstBy tie_first rs ts ys) → TellsTrees W rs ts (tree_result W rs n ts)
  tells found first = record {
    many = mark-one;
    exact = mark-none;
    count = λ h. (exact h).0;
    limit = λ h. (many h).0;
    first = first;
    only = λ ys zs k j. some-injective ys zs (sym (found ys k) ∙ found zs j);
    none = by_none;
    best = λ ys k. (by_found ys (found ys k)).0;
    members = λ ys k. (by_found ys (found ys k)).1;
  }
