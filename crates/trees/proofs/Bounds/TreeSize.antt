-- A tree on t taxa has at most 2 t - 1 members, so its weight is at most that many times the largest weight of a row, either way.
--     Within M rs          each row's weight is at most M, either way
--     weight_measure       the absolute weight of a family is a measure of it
--     tree_laminar         the members of a tree nest
--     tree-length-le, tree-weight-le           the bounds for trees as families
--     trees_on-length-le, trees_on-weight-le     the bounds for the trees of the definition
-- Assumes nothing.
use mathlib.Core.Path.{◌≡◌, refl, sym, ap, ◌∙◌}
use mathlib.Core.Logic.{◌⊎◌, inl, inr, ◌≢◌}
use mathlib.Core.Bool.{not, ◌&&◌, ◌||◌}
use mathlib.Core.List.Memᴰ
use mathlib.Core.List.{List, [], ◌∷◌}
use mathlib.Core.List.Memᴰ.{head as here}
use mathlib.Core.List.Memᴰ.{tail as there}
use mathlib.Core.List.{Memᴰ as Mem}
use Prim.Native.Nat.{ℕ, ◌+◌, ◌*◌, ◌≤◌, zero-le}
use native.Mathlib.Omega.{arith}
use lib.Dec.{T, T_not}
use lib.IntN.{nat_abs, +ℤ_idr}
use lib.ListN.{length}
use Rattle.laws.specs.Cluster.{size}
use Rattle.laws.specs.Lists.{keep}
use Rattle.laws.specs.Orders.{Falling}
use Rattle.laws.specs.Row.{Row}
use Rattle.laws.proofs.Falling.{sublist_is_elem}
use Rattle.laws.proofs.Integers.{abs_sum-le}
use Rattle.laws.proofs.Laminar.{Measure, count_measure, Laminar, laminar_le}
use Rattle.laws.proofs.Tests.{T_and, T-dec, T_true, T_false, or_split}
use Rattle.trees.specs.Heaviest.{weight_in, weight_of}
use Rattle.trees.specs.Rows.{clusters_of}
use Rattle.trees.specs.Tree.{trees_on}
use Rattle.trees.proofs.Sets.Families.{Fam}
use Rattle.trees.proofs.Ties.Marks.{weight_ext, weight-none, weight_join}
use Rattle.trees.proofs.Sets.TreeFacts.{Given, Tree}
use Rattle.trees.proofs.Joined.TreeTest.{fam_of, tree_of}

-- ---- the weight of a family

weight_split : (rs : List Row) (S p : Fam)
    → nat_abs (weight_in rs S) ≤ nat_abs (weight_in rs (λ c. S c && p c)) + nat_abs (weight_in rs (λ c. S c && not (p c)))
weight_split rs S p =
    rw (weight_ext rs S (λ c. S c && p c || S c && not (p c)) (λ r _. sym (or_split (S r.cluster) (p r.cluster)))
    ∙ weight_join rs (λ c. S c && p c) (λ c. S c && not (p c)) apart)
    (abs_sum-le (weight_in rs (λ c. S c && p c)) (weight_in rs (λ c. S c && not (p c))))
  where
    apart : (c : ℕ) → T (S c && p c) → T (S c && not (p c)) → ⊥
    apart c h k = T_not (p c) (T_and (S c) (not (p c)) k).1 (T_and (S c) (p c) h).1

module _ (M : ℕ) where
  abbrev pub Within : List Row → Type 0
  Within rs = (r : Row) → Mem r rs → nat_abs r.weight ≤ M

  -- one member at most
  weight-few : (rs : List Row) → Falling (clusters_of rs) → Within rs → (S : Fam) (c : ℕ) → ((x : ℕ) → T (S x) → x ≡ c)
      → nat_abs (weight_in rs S) ≤ M
  weight-few [] f h S c only = zero-le
  weight-few (r ∷ rs) f h S c only = go (T-dec (S r.cluster)) (weight-few rs f.1 (λ x m. h x (there m)) S c only)
    where
      none : T (S r.cluster) → (x : Row) → Mem x rs → T (S x.cluster) → ⊥
      none s x m t = omega (arith, f.0 x.cluster (Memᴰ.map (λ (y : Row). y.cluster) m), only r.cluster s, only x.cluster t)

      go : T (S r.cluster) ⊎ (T (S r.cluster) → ⊥) → nat_abs (weight_in rs S) ≤ M → nat_abs (weight_in (r ∷ rs) S) ≤ M
      go (inl s) ih = rw (T_true (S r.cluster) s, weight-none rs S (none s), +ℤ_idr) (h r (here refl))
      go (inr n) ih = rw (T_false (S r.cluster) n) ih

  pub weight_measure : (rs : List Row) → Falling (clusters_of rs) → Within rs → Measure (λ S. nat_abs (weight_in rs S)) M
  weight_measure rs f h = record {
    split = weight_split rs;
    none = λ S g. ap nat_abs (weight-none rs S (λ r _ t. g r.cluster t));
    one = weight-few rs f h;
  }

-- ---- trees as families

module _ (G : Given) (C : ℕ) (S : Fam) (tree : Tree G C S) where
  pub tree_laminar : Laminar G.listed C S
  tree_laminar = record {
    listed = tree.listed;
    nonzero = λ c s. (G.sound c (tree.listed c s)).0;
    within = tree.within;
    nest = tree.laminar;
  }

  nonzero-top : C ≢ 0
  nonzero-top = tree_laminar.nonzero C tree.top

  pub tree-length-le : length (keep S G.listed) + 1 ≤ 2 * size C
  tree-length-le =
      let L = G.listed in
      laminar_le L (λ U. length (keep U L)) 1 (count_measure L G.once) C nonzero-top S tree_laminar

  pub tree-weight-le : (rs : List Row) (M : ℕ) → Falling (clusters_of rs) → Within M rs → nat_abs (weight_in rs S) + M ≤ 2 * M * size C
  tree-weight-le rs M f h = laminar_le G.listed (λ U. nat_abs (weight_in rs U)) M (weight_measure M rs f h) C nonzero-top S tree_laminar

-- ---- trees as lists

module _ (G : Given) (C : ℕ) (xs : List ℕ) (m : Mem xs (trees_on G.width G.degree G.listed C)) where
  pub trees_on-length-le : length xs + 1 ≤ 2 * size C
  trees_on-length-le =
      let t = tree_of G C xs m in
      let h = tree-length-le G C (fam_of G xs) t.1 in
      omega (arith, ap length (sublist_is_elem G.listed xs G.once t.0))

  pub trees_on-weight-le : (rs : List Row) (M : ℕ) → Falling (clusters_of rs) → Within M rs → nat_abs (weight_of rs xs) + M ≤ 2 * M * size C
  trees_on-weight-le rs M f h = tree-weight-le G C (fam_of G xs) (tree_of G C xs m).1 rs M f h
