-- Every tree on a cluster of two or more taxa has its tuple, the children of the whole, and is a tree inside each of them.
--     is_child           the cluster of a row is a child of the whole
--     tuple_in           the rows beneath whose clusters are children of the whole
--     tuple_found       they are a tuple
--     tree_cut          the other members are a cut along it
-- Assumes nothing.
use mathlib.Core.Path.{◌≡◌, sym, subst}
use mathlib.Core.Logic.{◌⊎◌, inl, inr, ◌≢◌}
use mathlib.Core.Bool.{Bool, ◌&&◌, ◌||◌}
use mathlib.Core.List.Memᴰ
use mathlib.Core.List.{List, map, Memᴰ as Mem}
use Prim.Native.Nat.{ℕ, ◌-◌, ◌^◌, ◌≤◌}
use native.Mathlib.Nat.{le_antisymm}
use native.Mathlib.Omega.{arith}
use lib.Dec.{T, leb, leb→le}
use lib.ListN.{length}
use Rattle.laws.specs.Cluster.{inside, strict, apart, single, union_of}
use Rattle.laws.specs.Lists.{keep, sublists, Once}
use Rattle.laws.proofs.Tests.{T_and, and_T, T-or, bool_ext}
use Rattle.laws.proofs.Keep.{mem-keep, mem_of_keep}
use Rattle.laws.proofs.Largest.{Largest, largest_of}
use Rattle.laws.proofs.Once.{once-length-le, once-map-keep}
use Rattle.laws.proofs.Sublists.{sublists-keep}
use Rattle.laws.proofs.Cluster.{inside_refl, inside_trans, inside_antisym, le_of_inside, inside_of_taxa, strict→, →strict}
use Rattle.laws.proofs.Cluster.{Nest, below, above, away, nested→, inside-union_of, union_of-inside, two_parts}
use Rattle.laws.proofs.Taxa.{→single}
use Rattle.trees.specs.Rows.{cl}
use Rattle.trees.specs.Tuple.{is_tuple, tuples}
use Rattle.trees.proofs.Sets.Families.{Fam, restrict, except, except→, →except}
use Rattle.trees.proofs.Sets.TreeFacts.{Given, Tree, kid, kids, kids_local, KidOf, kid→, →kid}
use Rattle.trees.proofs.Sets.Tuples.{→tuple, apart-all}
use Rattle.trees.proofs.Joined.Cuts.{TreeEntry, Holder, Cut}
use Rattle.trees.proofs.Joined.Beneath.{Beneath}

module _ (G : Given) (C : ℕ) (es : List TreeEntry) (S : Fam) where
  abbrev pub is_child : TreeEntry → Bool
  is_child e = kid G S C (cl e)

  abbrev pub tuple_in : List TreeEntry
  tuple_in = keep is_child es

module _ (G : Given) (C : ℕ) (es : List TreeEntry) (beneath : Beneath G C es)
    (not-one : T (single C) → ⊥) (S : Fam) (tree : Tree G C S) where
  abbrev parts : List TreeEntry
  parts = tuple_in G C es S

  -- ---- a member below the top lies inside a child of it

  module _ (c : ℕ) (s : T (S c)) (other : c ≢ C) where
    -- the members below the top that c lies inside
    over : ℕ → Bool
    over l = S l && (strict l C && inside c l)

    →over : (l : ℕ) → T (S l) → T (strict l C) → T (inside c l) → T (over l)
    unfolding over
    →over l x y z = and_T (S l) (strict l C && inside c l) x (and_T (strict l C) (inside c l) y z)

    over→ : (l : ℕ) → T (over l) → T (S l) × T (strict l C) × T (inside c l)
    unfolding over
    over→ l h =
        let a = T_and (S l) (strict l C && inside c l) h in
        let b = T_and (strict l C) (inside c l) a.1 in
        (a.0, b.0, b.1)

    -- the largest of them is a child
    largest_child : (q : Largest over G.listed) → T (kid G S C q.number)
    largest_child q = →kid G S C q.number f.0 f.1 none_between
      where
        f : T (S q.number) × T (strict q.number C) × T (inside c q.number)
        f = over→ q.number q.passes

        none_between : (l : ℕ) → Mem l G.listed → T (S l) → T (strict l C) → T (strict q.number l) → ⊥
        none_between l m x y z =
            let i = strict→ q.number l z in
            i.1 (le_antisymm (le_of_inside q.number l i.0) (q.most l m (→over l x y (inside_trans c q.number l f.2 i.0))))

    child_over : Holder parts c
    child_over = go (largest_of over G.listed c (tree.listed c s) (→over c s (→strict c C (tree.within c s) other) (inside_refl c)))
      where
        go : Largest over G.listed → Holder parts c
        go q =
            let f = over→ q.number q.passes in
            let r = beneath.below q.number q.listed f.1 in
            let child = subst (λ (x : ℕ). T (kid G S C x)) (sym r.2) (largest_child q) in
            (r.0, mem-keep (is_child G C es S) es r.1 child, subst (λ (x : ℕ). T (inside c x)) (sym r.2) f.2)

  -- ---- the children are a tuple

  part_child : (e : TreeEntry) → Mem e parts → T (kid G S C (cl e))
  part_child e m = (mem_of_keep (is_child G C es S) es m).1

  cluster_child : (c : ℕ) → Mem c (map cl parts) → KidOf G S C c × Mem c G.listed
  cluster_child c m =
      let q = Memᴰ.of_map cl parts m in
      let r = mem_of_keep (is_child G C es S) es q.1 in
      (kid→ G S C c (subst (λ (x : ℕ). T (kid G S C x)) q.2 r.1), Memᴰ.cast (sym q.2) (beneath.listed q.0 r.0))

  cluster-strict : (c : ℕ) → Mem c (map cl parts) → T (inside c C) × (c ≢ C)
  cluster-strict c m = strict→ c C (cluster_child c m).0.1

  clusters-once : Once (map cl parts)
  clusters-once = once-map-keep cl (is_child G C es S) es beneath.once

  taxon_other : (t : ℕ) → 2 ^ t ≢ C
  taxon_other t e = not-one (subst (λ (x : ℕ). T (single x)) e (→single t))

  clusters-union : union_of (map cl parts) ≡ C
  clusters-union =
      inside_antisym (union_of (map cl parts)) C (union_of-inside (map cl parts) C (λ c m. (cluster-strict c m).0))
      (inside_of_taxa G.width C (union_of (map cl parts)) (G.sound C beneath.top).1 (λ t h i.
      let q = child_over (2 ^ t) (tree.leaves t h i) (taxon_other t) in
      inside_trans (2 ^ t) (cl q.0) (union_of (map cl parts)) q.2 (inside-union_of (map cl parts) (cl q.0) (Memᴰ.map cl q.1))))

  clusters-apart : (a b : ℕ) → Mem a (map cl parts) → Mem b (map cl parts) → a ≢ b → T (apart a b)
  clusters-apart a b m k n = go (nested→ a b (tree.laminar a b (cluster_child a m).0.0 (cluster_child b k).0.0))
    where
      go : Nest a b → T (apart a b)
      go (below x) = let q = cluster_child b k in absurd ((cluster_child a m).0.2 b q.1 q.0.0 q.0.1 (→strict a b x n))
      go (above x) =
          let q = cluster_child a m in
          absurd ((cluster_child b k).0.2 a q.1 q.0.0 q.0.1 (→strict b a x (λ e. n (sym e))))
      go (away x) = x

  clusters-few : length (map cl parts) ≤ G.degree - 1
  clusters-few = go (T-or (single C) (leb (length (kids G S C)) (G.degree - 1)) (tree.bounded C tree.top))
    where
      in_kids : (c : ℕ) → Mem c (map cl parts) → Mem c (kids G S C)
      in_kids c m =
          let q = Memᴰ.of_map cl parts m in
          mem-keep (kid G S C) G.listed (cluster_child c m).1 (subst (λ (x : ℕ). T (kid G S C x)) q.2 (part_child q.0 q.1))

      go : T (single C) ⊎ T (leb (length (kids G S C)) (G.degree - 1)) → length (map cl parts) ≤ G.degree - 1
      go (inl x) = absurd (not-one x)
      go (inr x) =
          omega (arith, leb→le (length (kids G S C)) (G.degree - 1) x, once-length-le (map cl parts) (kids G S C) clusters-once in_kids)

  pub tuple_found : Mem (tuple_in G C es S) (tuples G.degree C es)
  tuple_found =
      mem-keep (λ (τ : List TreeEntry). is_tuple G.degree C (map cl τ)) (sublists es) (sublists-keep (is_child G C es S) es)
      (→tuple G.degree C (map cl parts) (record {
        two = two_parts (map cl parts) C clusters-union (G.sound C beneath.top).0 (λ c m. (cluster-strict c m).1);
        few = clusters-few;
        union = clusters-union;
        apart = apart-all (map cl parts) clusters-once clusters-apart;
      }))

  -- ---- the other members are a tree inside each child

  module _ (e : TreeEntry) (child : KidOf G S C (cl e)) where
    abbrev inner : Fam
    inner = restrict (except S C) (cl e)

    child_inside : T (inside (cl e) C)
    child_inside = (strict→ (cl e) C child.1).0

    inner→ : (c : ℕ) → T (inner c) → T (S c) × T (inside c (cl e))
    inner→ c h = let q = T_and (except S C c) (inside c (cl e)) h in ((except→ S C c q.0).0, q.1)

    →inner : (c : ℕ) → T (S c) → T (inside c (cl e)) → T (inner c)
    →inner c s i = and_T (except S C c) (inside c (cl e)) (→except S C c s other) i
      where
        other : c ≢ C
        other q = (strict→ (cl e) C child.1).1 (inside_antisym (cl e) C child_inside (subst (λ (x : ℕ). T (inside x (cl e))) q i))

    inner-few : (m : ℕ) → T (inner m) → T (single m || leb (length (kids G inner m)) (G.degree - 1))
    inner-few m h =
        subst (λ (ks : List ℕ). T (single m || leb (length ks) (G.degree - 1))) (kids_local G S inner m same)
        (tree.bounded m (inner→ m h).0)
      where
        same : (c : ℕ) → T (inside c m) → S c ≡ inner c
        same c i = bool_ext (S c) (inner c) (λ s. →inner c s (inside_trans c m (cl e) i (inner→ m h).1)) (λ u. (inner→ c u).0)

    part_tree : Tree G (cl e) inner
    part_tree = record {
      listed = λ c h. tree.listed c (inner→ c h).0;
      within = λ c h. (inner→ c h).1;
      top = →inner (cl e) child.0 (inside_refl (cl e));
      leaves = λ t h i. →inner (2 ^ t) (tree.leaves t h (inside_trans (2 ^ t) (cl e) C i child_inside)) i;
      laminar = λ a b h k. tree.laminar a b (inner→ a h).0 (inner→ b k).0;
      bounded = inner-few;
    }

  pub tree_cut : Cut G (tuple_in G C es S) (except S C)
  tree_cut = record {
    parts = λ e m. part_tree e (kid→ G S C (cl e) (part_child e m));
    held = λ c u. let h = except→ S C c u in child_over c h.0 h.1;
  }
