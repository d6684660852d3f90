-- An ordered shape is decided by its clusters, each of which it has once.
--     ordered-only      ordered shapes with the same clusters, none twice, are equal
-- Assumes nothing.
use mathlib.Core.Path.{◌≡◌, refl, sym, ap, ap₂, ◌∙◌, subst}
use mathlib.Core.Logic.{◌⊎◌, inl, inr, ⊎_elim, ◌≢◌}
use mathlib.Core.List.Memᴰ
use mathlib.Core.List.{List, ◌∷◌, head-eq_of_cons-eq, tail-eq_of_cons-eq}
use mathlib.Core.List.Memᴰ.{head as here}
use mathlib.Core.List.Memᴰ.{tail as there}
use mathlib.Core.List.{Memᴰ as Mem}
use Prim.Native.Nat.{ℕ, suc, ◌^◌}
use native.Mathlib.Omega.{arith}
use lib.Dec.{T}
use lib.ListN.{length}
use Rattle.laws.specs.Cluster.{inside, apart, union_of}
use Rattle.laws.specs.Lists.{every, Once, Same}
use Rattle.laws.proofs.Tests.{T_and}
use Rattle.laws.proofs.Keep.{every→}
use Rattle.laws.proofs.Digits.{Has, has_pow, pow_has}
use Rattle.laws.proofs.Cluster.{inside_refl, inside_trans, inside_antisym, apart_of_inside, zero_of_apart, inside-union_of}
use Rattle.trees.specs.Tuple.{all_apart}
use Rattle.trees.proofs.Sets.Tuples.{→tuple, part_other, apart_of_tuple, apart_rest}
use Rattle.shapes.specs.Shape.{Shape, taxon, vertex, Shapes, none, more, top_of, tops_of, vertices_of, vertices_in}
use Rattle.shapes.specs.Shape.{smallest, is_ordered, are_ordered}
use Rattle.shapes.proofs.Sorted.{rising-only, map-rising}
use Rattle.shapes.proofs.Shape.{top-cluster, tops_clusters, cluster-inside, clusters-inside, first-top, Ordered, ordered→}
use Rattle.shapes.proofs.Shape.{tops_nonzero, cluster-nonzero, clusters-nonzero, is_apart, are_apart, apart_of_once}

flip : (l r : List ℕ) → Same l r → Same r l
flip l r h = record { to = h.from; from = h.to }

pow_inj : (t u : ℕ) → 2 ^ t ≡ 2 ^ u → t ≡ u
pow_inj t u e = pow_has u t (subst (λ (x : ℕ). Has x t) e (has_pow t))

-- ---- a vertex

-- what is asked of the children of a vertex, one by one and together
record Good (ss : Shapes) : Type 0 where
  ordered : Ordered ss
  apart : T (all_apart (tops_of ss))
  below : T (are_apart ss)

good→ : (ss : Shapes) → T (is_ordered (vertex ss)) → T (is_apart (vertex ss)) → Good ss
good→ ss h a = let q = T_and (all_apart (tops_of ss)) (are_apart ss) a in record { ordered = ordered→ ss h; apart = q.0; below = q.1 }

-- the top is another cluster than the children's
top_other : (ss : Shapes) → Good ss → (k : ℕ) → Mem k (tops_of ss) → k ≢ union_of (tops_of ss)
top_other ss g k m =
    let l = tops_of ss in
    let h = →tuple (suc (length l)) (union_of l) l (record { two = g.ordered.two; few = omega arith; union = refl; apart = g.apart }) in
    part_other (suc (length l)) (union_of l) l (tops_nonzero ss g.ordered.each) h k m

top_beneath : (ss : Shapes) → Good ss → Mem (union_of (tops_of ss)) (vertices_in ss) → ⊥
top_beneath ss g m =
    let q = clusters-inside ss (union_of (tops_of ss)) m in
    top_other ss g q.0 q.1 (inside_antisym q.0 (union_of (tops_of ss)) (inside-union_of (tops_of ss) q.0 q.1) q.2)

top-same : (s s' : Shape) → Same (vertices_of s) (vertices_of s') → top_of s ≡ top_of s'
top-same s s' h =
    inside_antisym (top_of s) (top_of s') (cluster-inside s' (top_of s) (h.to (top_of s) (top-cluster s)))
    (cluster-inside s (top_of s') (h.from (top_of s') (top-cluster s')))

-- the clusters beneath the top are the same too
beneath_part : (ss ss' : Shapes) → Good ss → Same (vertices_of (vertex ss)) (vertices_of (vertex ss'))
    → (c : ℕ) → Mem c (vertices_in ss) → Mem c (vertices_in ss')
beneath_part ss ss' g h c m = go (h.to c (there m))
  where
    go : Mem c (vertices_of (vertex ss')) → Mem c (vertices_in ss')
    go (here e) = absurd (top_beneath ss g (Memᴰ.cast (top-same (vertex ss) (vertex ss') h ∙ sym e) m))
    go (there k) = k

-- and so are the tops of the children: a top lies in a top of the other's, which lies in one that isn't apart from the first
tops_part : (ss ss' : Shapes) → Good ss → Same (vertices_in ss) (vertices_in ss') → (k : ℕ) → Mem k (tops_of ss) → Mem k (tops_of ss')
tops_part ss ss' g h k m = go (apart_of_tuple (tops_of ss) g.apart k r.0 m r.1)
  where
    q : (x : ℕ) × Mem x (tops_of ss') × T (inside k x)
    q = clusters-inside ss' k (h.to k (tops_clusters ss k m))

    r : (x : ℕ) × Mem x (tops_of ss) × T (inside q.0 x)
    r = clusters-inside ss q.0 (h.from q.0 (tops_clusters ss' q.0 q.1))

    go : (k ≡ r.0) ⊎ T (apart k r.0) → Mem k (tops_of ss')
    go (inl e) = Memᴰ.cast (inside_antisym k q.0 q.2 (subst (λ (x : ℕ). T (inside q.0 x)) (sym e) r.2)) q.1
    go (inr a) =
        absurd (tops_nonzero ss g.ordered.each k m
        (zero_of_apart k (apart_of_inside k r.0 k k a (inside_refl k) (inside_trans k q.0 r.0 q.2 r.2))))

tops_same : (ss ss' : Shapes) → Good ss → Good ss' → Same (vertices_in ss) (vertices_in ss') → tops_of ss ≡ tops_of ss'
tops_same ss ss' g g' h =
    rising-only smallest (tops_of ss) (tops_of ss') (map-rising smallest (tops_of ss) g.ordered.rises)
    (map-rising smallest (tops_of ss') g'.ordered.rises)
    (record { to = tops_part ss ss' g h; from = tops_part ss' ss g' (flip (vertices_in ss) (vertices_in ss') h) })

-- ---- a first child and the others

clash : (a c k : ℕ) (cs : List ℕ) → T (all_apart (a ∷ cs)) → c ≢ 0 → T (inside c a) → Mem k cs → T (inside c k) → ⊥
clash a c k cs h n i m j =
    let x = every→ (λ (y : ℕ). apart a y) cs (T_and (every (λ (y : ℕ). apart a y) cs) (all_apart cs) h).0 k m in
    n (zero_of_apart c (apart_of_inside a k c c x i j))

module _ (s s' : Shape) (ss ss' : Shapes) (a : T (all_apart (tops_of (more s ss)))) (e : tops_of (more s ss) ≡ tops_of (more s' ss')) where
  first_part : T (is_ordered s) → (c : ℕ) → Mem c (vertices_of s) → Mem c (vertices_in (more s' ss')) → Mem c (vertices_of s')
  first_part o c m k = ⊎_elim (λ j. j) (λ j. absurd (out j)) (Memᴰ.append_cases (vertices_of s') k)
    where
      out : Mem c (vertices_in ss') → ⊥
      out j =
          let q = clusters-inside ss' c j in
          clash (top_of s) c q.0 (tops_of ss) a (cluster-nonzero s o c m) (cluster-inside s c m)
          (subst (Mem q.0) (sym (tail-eq_of_cons-eq e)) q.1) q.2

  rest_part : T (are_ordered ss) → (c : ℕ) → Mem c (vertices_in ss) → Mem c (vertices_in (more s' ss')) → Mem c (vertices_in ss')
  rest_part o c m k = ⊎_elim (λ j. absurd (out j)) (λ j. j) (Memᴰ.append_cases (vertices_of s') k)
    where
      out : Mem c (vertices_of s') → ⊥
      out j =
          let q = clusters-inside ss c m in
          clash (top_of s) c q.0 (tops_of ss) a (clusters-nonzero ss o c m)
          (subst (λ (x : ℕ). T (inside c x)) (sym (head-eq_of_cons-eq e)) (cluster-inside s' c j)) q.1 q.2

-- the same of both, each way
module _ (s s' : Shape) (ss ss' : Shapes) (a : T (all_apart (tops_of (more s ss)))) (e : tops_of (more s ss) ≡ tops_of (more s' ss'))
    (h : Same (vertices_in (more s ss)) (vertices_in (more s' ss'))) where
  a' : T (all_apart (tops_of (more s' ss')))
  a' = subst (λ (l : List ℕ). T (all_apart l)) e a

  first-same : T (is_ordered s) → T (is_ordered s') → Same (vertices_of s) (vertices_of s')
  first-same o o' = record {
    to = λ c m. first_part s s' ss ss' a e o c m (h.to c (Memᴰ.append_left (vertices_in ss) m));
    from = λ c m. first_part s' s ss' ss a' (sym e) o' c m (h.from c (Memᴰ.append_left (vertices_in ss') m));
  }

  rest_same : T (are_ordered ss) → T (are_ordered ss') → Same (vertices_in ss) (vertices_in ss')
  rest_same o o' = record {
    to = λ c m. rest_part s s' ss ss' a e o c m (h.to c (Memᴰ.append_right (vertices_of s) m));
    from = λ c m. rest_part s' s ss' ss a' (sym e) o' c m (h.from c (Memᴰ.append_right (vertices_of s') m));
  }

-- ---- shapes

-- a vertex has a child's cluster beside its own, a taxon has one cluster
taxon-vertex : (t : ℕ) (ss : Shapes) → Good ss → ((c : ℕ) → Mem c (vertices_of (vertex ss)) → Mem c (vertices_of (taxon t))) → ⊥
taxon-vertex t ss g f =
    let k = first-top ss g.ordered.two in
    let e = Memᴰ.eq_of_singleton (f k.0 (there (tops_clusters ss k.0 k.1))) in
    top_other ss g k.0 k.1 (e ∙ sym (Memᴰ.eq_of_singleton (f (union_of (tops_of ss)) (here refl))))

mutual
  only : (s s' : Shape) → T (is_ordered s) → T (is_ordered s') → T (is_apart s) → T (is_apart s') → Same (vertices_of s) (vertices_of s') → s ≡ s'
  only (taxon t) (taxon u) o o' a a' h = ap taxon (pow_inj t u (Memᴰ.eq_of_singleton (h.to (2 ^ t) (here refl))))
  only (taxon t) (vertex ss) o o' a a' h = absurd (taxon-vertex t ss (good→ ss o' a') h.from)
  only (vertex ss) (taxon t) o o' a a' h = absurd (taxon-vertex t ss (good→ ss o a) h.to)
  only (vertex ss) (vertex ss') o o' a a' h =
      let g = good→ ss o a in
      let g' = good→ ss' o' a' in
      let b : Same (vertices_in ss) (vertices_in ss') = record {
        to = beneath_part ss ss' g h;
        from = beneath_part ss' ss g' (flip (vertices_of (vertex ss)) (vertices_of (vertex ss')) h);
      } in
      ap vertex (only-each ss ss' g.ordered.each g'.ordered.each g.below g'.below g.apart (tops_same ss ss' g g' b) b)

  only-each : (ss ss' : Shapes) → T (are_ordered ss) → T (are_ordered ss') → T (are_apart ss) → T (are_apart ss')
      → T (all_apart (tops_of ss)) → tops_of ss ≡ tops_of ss' → Same (vertices_in ss) (vertices_in ss') → ss ≡ ss'
  only-each none none o o' a a' p e h = refl
  only-each none (more s' ss') o o' a a' p e h = absurd (let z : 0 ≡ suc (length (tops_of ss')) = ap length e in omega arith)
  only-each (more s ss) none o o' a a' p e h = absurd (let z : suc (length (tops_of ss)) ≡ 0 = ap length e in omega arith)
  only-each (more s ss) (more s' ss') o o' a a' p e h =
      let q = T_and (is_ordered s) (are_ordered ss) o in
      let q' = T_and (is_ordered s') (are_ordered ss') o' in
      let r = T_and (is_apart s) (are_apart ss) a in
      let r' = T_and (is_apart s') (are_apart ss') a' in
      ap₂ more (only s s' q.0 q'.0 r.0 r'.0 (first-same s s' ss ss' p e h q.0 q'.0))
      (only-each ss ss' q.1 q'.1 r.1 r'.1 (apart_rest (top_of s) (tops_of ss) p) (tail-eq_of_cons-eq e)
      (rest_same s s' ss ss' p e h q.1 q'.1))

pub ordered-only : (s s' : Shape) → T (is_ordered s) → T (is_ordered s') → Once (vertices_of s) → Once (vertices_of s')
    → Same (vertices_of s) (vertices_of s') → s ≡ s'
ordered-only s s' o o' p p' h = only s s' o o' (apart_of_once s p) (apart_of_once s' p') h
