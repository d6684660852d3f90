-- The clusters of a shape, whatever the shape.
--     top-cluster, tops_clusters       the tops are clusters of it
--     cluster-inside, clusters-inside  each cluster lies inside the top, or inside the top of one child
--     Ordered ss, ordered→             the children of an ordered vertex, as facts
--     first-top                        there is one at least
--     tops_nonzero, cluster-nonzero, clusters-nonzero     none is empty where the shape is ordered
--     is_apart, are_apart, apart-of-once at every vertex the children are apart; so it is where no cluster stands twice
-- Assumes nothing.
use mathlib.Core.Path.{refl, sym, ap, ◌∙◌, subst}
use mathlib.Core.Logic.{⊎_elim, ◌≢◌}
use mathlib.Core.Bool.{Bool, true, ◌&&◌}
use mathlib.Core.List.Memᴰ
use mathlib.Core.List.{map}
use mathlib.Core.List.Memᴰ.{head as here}
use mathlib.Core.List.Memᴰ.{not-nil as mem-nil}
use mathlib.Core.List.Memᴰ.{tail as there}
use mathlib.Core.List.{Memᴰ as Mem}
use Prim.Native.Nat.{ℕ, ◌^◌, ◌≤◌}
use native.Mathlib.Omega.{arith}
use lib.Dec.{T, leb, leb→le}
use lib.ListN.{length}
use Rattle.laws.specs.Cluster.{inside, apart, union_of}
use Rattle.laws.specs.Lists.{every, Once}
use Rattle.laws.proofs.Tests.{T_and, and_T}
use Rattle.laws.proofs.Keep.{→every}
use Rattle.laws.proofs.Digits.{pow_has}
use Rattle.laws.proofs.Cluster.{inside_refl, inside_trans, has_of_inside, inside_of_has, zero_of_inside, inside-union_of}
use Rattle.laws.proofs.Cluster.{→apart, taxon_of_union, taxon-nonzero}
use Rattle.laws.proofs.Split.{Parted, once_of_append}
use Rattle.trees.specs.Tuple.{all_apart}
use Rattle.shapes.specs.Shape.{Shape, taxon, vertex, Shapes, none, more, top_of, tops_of, vertices_of, vertices_in}
use Rattle.shapes.specs.Shape.{smallest, ascends, is_ordered, are_ordered}

-- ---- tops are clusters

pub top-cluster : (s : Shape) → Mem (top_of s) (vertices_of s)
top-cluster (taxon t) = here refl
top-cluster (vertex ss) = here refl

pub tops_clusters : (ss : Shapes) (k : ℕ) → Mem k (tops_of ss) → Mem k (vertices_in ss)
tops_clusters none k m = m
tops_clusters (more s ss) k (here e) = Memᴰ.cast e (Memᴰ.append_left (vertices_in ss) (top-cluster s))
tops_clusters (more s ss) k (there m) = Memᴰ.append_right (vertices_of s) (tops_clusters ss k m)

-- ---- clusters lie inside tops

abbrev Within : Shapes → ℕ → Type 0
Within ss c = (k : ℕ) × Mem k (tops_of ss) × T (inside c k)

within-union : (ss : Shapes) (c : ℕ) → Within ss c → T (inside c (union_of (tops_of ss)))
within-union ss c q = inside_trans c q.0 (union_of (tops_of ss)) q.2 (inside-union_of (tops_of ss) q.0 q.1)

within_more : (s : Shape) (ss : Shapes) (c : ℕ) → Within ss c → Within (more s ss) c
within_more s ss c q = (q.0, there q.1, q.2)

mutual
  pub cluster-inside : (s : Shape) (c : ℕ) → Mem c (vertices_of s) → T (inside c (top_of s))
  cluster-inside (taxon t) c (here e) = subst (λ (x : ℕ). T (inside c x)) e (inside_refl c)
  cluster-inside (taxon t) c (there m) = absurd (mem-nil m)
  cluster-inside (vertex ss) c (here e) = subst (λ (x : ℕ). T (inside c x)) e (inside_refl c)
  cluster-inside (vertex ss) c (there m) = within-union ss c (clusters-inside ss c m)

  pub clusters-inside : (ss : Shapes) (c : ℕ) → Mem c (vertices_in ss) → (k : ℕ) × Mem k (tops_of ss) × T (inside c k)
  clusters-inside none c m = absurd (mem-nil m)
  clusters-inside (more s ss) c m =
      ⊎_elim (λ k. (top_of s, here refl, cluster-inside s c k)) (λ k. within_more s ss c (clusters-inside ss c k))
      (Memᴰ.append_cases (vertices_of s) m)

-- ---- an ordered vertex

pub record Ordered (ss : Shapes) : Type 0 where
  pub two : 2 ≤ length (tops_of ss)
  pub rises : T (ascends (map smallest (tops_of ss)))
  pub each : T (are_ordered ss)

pub ordered→ : (ss : Shapes) → T (is_ordered (vertex ss)) → Ordered ss
ordered→ ss h =
    let l = tops_of ss in
    let q = T_and (leb 2 (length l) && ascends (map smallest l)) (are_ordered ss) h in
    let r = T_and (leb 2 (length l)) (ascends (map smallest l)) q.0 in
    record { two = leb→le 2 (length l) r.0; rises = r.1; each = q.1 }

pub first-top : (ss : Shapes) → 2 ≤ length (tops_of ss) → (k : ℕ) × Mem k (tops_of ss)
first-top none h = absurd (omega arith)
first-top (more s ss) h = (top_of s, here refl)

-- ---- no cluster of an ordered shape is empty

nonzero_of_inside : (a b : ℕ) → T (inside a b) → a ≢ 0 → b ≢ 0
nonzero_of_inside a b i n e = n (zero_of_inside a (subst (λ (x : ℕ). T (inside a x)) e i))

mutual
  top-nonzero : (s : Shape) → T (is_ordered s) → top_of s ≢ 0
  top-nonzero (taxon t) h = taxon-nonzero t
  top-nonzero (vertex ss) h =
      let o = ordered→ ss h in
      let k = first-top ss o.two in
      nonzero_of_inside k.0 (union_of (tops_of ss)) (inside-union_of (tops_of ss) k.0 k.1)
      (λ z. tops_nonzero ss o.each k.0 k.1 z)

  pub tops_nonzero : (ss : Shapes) → T (are_ordered ss) → (k : ℕ) → Mem k (tops_of ss) → k ≢ 0
  tops_nonzero none h k m z = mem-nil m
  tops_nonzero (more s ss) h k (here e) z = top-nonzero s (T_and (is_ordered s) (are_ordered ss) h).0 (sym e ∙ z)
  tops_nonzero (more s ss) h k (there m) z = tops_nonzero ss (T_and (is_ordered s) (are_ordered ss) h).1 k m z

mutual
  pub cluster-nonzero : (s : Shape) → T (is_ordered s) → (c : ℕ) → Mem c (vertices_of s) → c ≢ 0
  cluster-nonzero (taxon t) h c m e = taxon-nonzero t (sym (Memᴰ.eq_of_singleton m) ∙ e)
  cluster-nonzero (vertex ss) h c (here e) z = top-nonzero (vertex ss) h (sym e ∙ z)
  cluster-nonzero (vertex ss) h c (there m) z = clusters-nonzero ss (ordered→ ss h).each c m z

  pub clusters-nonzero : (ss : Shapes) → T (are_ordered ss) → (c : ℕ) → Mem c (vertices_in ss) → c ≢ 0
  clusters-nonzero none h c m z = mem-nil m
  clusters-nonzero (more s ss) h c m z =
      let q = T_and (is_ordered s) (are_ordered ss) h in
      ⊎_elim (λ k. cluster-nonzero s q.0 c k z) (λ k. clusters-nonzero ss q.1 c k z) (Memᴰ.append_cases (vertices_of s) m)

-- ---- the taxa of a shape are clusters of it

mutual
  taxon-cluster : (s : Shape) (t : ℕ) → T (inside (2 ^ t) (top_of s)) → Mem (2 ^ t) (vertices_of s)
  taxon-cluster (taxon u) t i = here (ap (λ (x : ℕ). 2 ^ x) (pow_has u t (has_of_inside t (2 ^ u) i)))
  taxon-cluster (vertex ss) t i = there (taxa-clusters ss t i)

  taxa-clusters : (ss : Shapes) (t : ℕ) → T (inside (2 ^ t) (union_of (tops_of ss))) → Mem (2 ^ t) (vertices_in ss)
  taxa-clusters none t i = absurd (taxon-nonzero t (zero_of_inside (2 ^ t) i))
  taxa-clusters (more s ss) t i =
      ⊎_elim (λ k. Memᴰ.append_left (vertices_in ss) (taxon-cluster s t k)) (λ k. Memᴰ.append_right (vertices_of s) (taxa-clusters ss t k))
      (taxon_of_union t (top_of s) (union_of (tops_of ss)) i)

-- ---- children that are apart

abbrev mutual
  pub is_apart : Shape → Bool
  is_apart (taxon t) = true
  is_apart (vertex ss) = all_apart (tops_of ss) && are_apart ss

  pub are_apart : Shapes → Bool
  are_apart none = true
  are_apart (more s ss) = is_apart s && are_apart ss

tops_apart : (ss : Shapes) → Once (vertices_in ss) → T (all_apart (tops_of ss))
tops_apart none o = tt
tops_apart (more s ss) o =
    let p = once_of_append (vertices_of s) (vertices_in ss) o in
    and_T (every (apart (top_of s)) (tops_of ss)) (all_apart (tops_of ss)) (→every (apart (top_of s)) (tops_of ss) (away p))
    (tops_apart ss p.right)
  where
    away : Parted (vertices_of s) (vertices_in ss) → (k : ℕ) → Mem k (tops_of ss) → T (apart (top_of s) k)
    away p k m = →apart (top_of s) k (λ t x y. p.none (2 ^ t) (taxon-cluster s t (inside_of_has t (top_of s) x))
        (taxa-clusters ss t (within-union ss (2 ^ t) (k, m, inside_of_has t k y))))

mutual
  pub apart_of_once : (s : Shape) → Once (vertices_of s) → T (is_apart s)
  apart_of_once (taxon t) o = tt
  apart_of_once (vertex ss) o = and_T (all_apart (tops_of ss)) (are_apart ss) (tops_apart ss o.1) (all_apart_lem ss o.1)

  all_apart_lem : (ss : Shapes) → Once (vertices_in ss) → T (are_apart ss)
  all_apart_lem none o = tt
  all_apart_lem (more s ss) o =
      let p = once_of_append (vertices_of s) (vertices_in ss) o in
      and_T (is_apart s) (are_apart ss) (apart_of_once s p.left) (all_apart_lem ss p.right)
