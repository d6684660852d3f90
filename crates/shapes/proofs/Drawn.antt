-- The shape of a member of clusters that nest: its clusters are the members inside it, each once, and its children stand in order.
--     Draws xs C s        the ordered shape s has exactly the members of xs inside C for its clusters, each once, and C for its top
--     shape-draws         the shape of a member draws it
-- Assumes nothing.
use mathlib.Core.Path.{◌≡◌, refl, sym, ap, ap₂, ◌∙◌, subst}
use mathlib.Core.Logic.{◌⊎◌, inl, inr}
use mathlib.Core.Bool.{◌&&◌}
use mathlib.Core.List.Memᴰ
use mathlib.Core.List.{List, [], ◌∷◌, ◌++◌, map}
use mathlib.Core.List.Memᴰ.{head as here}
use mathlib.Core.List.Memᴰ.{not-nil as mem-nil}
use mathlib.Core.List.Memᴰ.{tail as there}
use mathlib.Core.List.{Memᴰ as Mem}
use Prim.Native.Nat.{ℕ, zero, suc, ◌^◌, ◌≤◌, ◌<◌}
use native.Mathlib.Decide.{ℕ_discrete}
use native.Mathlib.Omega.{arith}
use lib.Dec.{T, leb, le→leb}
use lib.ListN.{length}
use Rattle.laws.specs.Cluster.{inside, strict, single, size, union_of}
use Rattle.laws.specs.Lists.{bind, Once}
use Rattle.laws.proofs.Tests.{and_T, T_true, T_false, T-dec}
use Rattle.laws.proofs.Keep.{mem-bind, mem_of_bind}
use Rattle.laws.proofs.Once.{once-bind}
use Rattle.laws.proofs.Digits.{has_lt, has_pow}
use Rattle.laws.proofs.Cluster.{inside_refl, inside_trans, inside_antisym, strict→, →strict, zero_of_apart, apart_of_inside}
use Rattle.laws.proofs.Taxa.{single→, inside-single, size_pos, size-lt}
use Rattle.laws.proofs.Lowest.{lowest-taxon}
use Rattle.shapes.specs.Shape.{Shape, taxon, vertex, top_of, tops_of, vertices_of, vertices_in, smallest, ascends, is_ordered, are_ordered}
use Rattle.shapes.specs.Drawn.{children_in_order, shapes_by, shape_of}
use Rattle.shapes.specs.Nests.{Nests}
use Rattle.shapes.proofs.Sorted.{rising-map}
use Rattle.shapes.proofs.Nests.{Child, child_over, children-apart}
use Rattle.shapes.proofs.Parts.{in_order→, →in_order, order_rising, order_once, order_union, order_two}

pub record Draws (xs : List ℕ) (C : ℕ) (s : Shape) : Type 0 where
  pub top : top_of s ≡ C
  pub ordered : T (is_ordered s)
  pub sound : (c : ℕ) → Mem c (vertices_of s) → Mem c xs × T (inside c C)
  pub complete : (c : ℕ) → Mem c xs → T (inside c C) → Mem c (vertices_of s)
  pub once : Once (vertices_of s)

-- ---- shapes of several clusters

module _ (f : ℕ → Shape) where
  clusters_by : (cs : List ℕ) → vertices_in (shapes_by f cs) ≡ bind (λ (c : ℕ). vertices_of (f c)) cs
  clusters_by [] = refl
  clusters_by (c ∷ cs) = ap (λ (l : List ℕ). vertices_of (f c) ++ l) (clusters_by cs)

  tops_by : (cs : List ℕ) → ((c : ℕ) → Mem c cs → top_of (f c) ≡ c) → tops_of (shapes_by f cs) ≡ cs
  tops_by [] g = refl
  tops_by (c ∷ cs) g = ap₂ (λ (x : ℕ) (l : List ℕ). x ∷ l) (g c (here refl)) (tops_by cs (λ x m. g x (there m)))

  ordered_by : (cs : List ℕ) → ((c : ℕ) → Mem c cs → T (is_ordered (f c))) → T (are_ordered (shapes_by f cs))
  ordered_by [] g = tt
  ordered_by (c ∷ cs) g = and_T (is_ordered (f c)) (are_ordered (shapes_by f cs)) (g c (here refl)) (ordered_by cs (λ x m. g x (there m)))

module _ (xs : List ℕ) (N : Nests xs) (C : ℕ) (m : Mem C xs) where
  is_top : (c : ℕ) → c ≡ C → Mem c xs × T (inside c C)
  is_top c e = (Memᴰ.cast e m, subst (λ (x : ℕ). T (inside c x)) e (inside_refl c))

  -- ---- one taxon
  module _ (one : T (single C)) where
    only : (c : ℕ) → Mem c xs → T (inside c C) → c ≡ C
    only c k i = inside-single c C one (N.nonzero c k) i

    taxon-top : 2 ^ smallest C ≡ C
    taxon-top =
        let q = single→ C one in
        let h : q.0 < 64 = has_lt 64 (2 ^ q.0) q.0 (subst (λ (x : ℕ). x < 2 ^ 64) q.1 (N.small C m)) (has_pow q.0) in
        ap (λ (x : ℕ). 2 ^ smallest x) q.1 ∙ ap (λ (t : ℕ). 2 ^ t) (lowest-taxon 64 q.0 h) ∙ sym q.1

    draws-taxon : Draws xs C (taxon (smallest C))
    draws-taxon = record {
      top = taxon-top;
      ordered = tt;
      sound = λ c k. is_top c (Memᴰ.eq_of_singleton k ∙ taxon-top);
      complete = λ c k i. here (only c k i ∙ sym taxon-top);
      once = (mem-nil, tt);
    }

  -- ---- a vertex
  module _ (more : T (single C) → ⊥) (f : ℕ → Shape) (g : (c : ℕ) → Child xs C c → Draws xs c (f c)) where
    abbrev order : List ℕ
    order = children_in_order xs C

    abbrev beneath : List ℕ
    beneath = bind (λ (c : ℕ). vertices_of (f c)) order

    tops : tops_of (shapes_by f order) ≡ order
    tops = tops_by f order (λ c k. (g c (in_order→ xs N C c k)).top)

    beneath→ : (c : ℕ) → Mem c beneath → (k : ℕ) × Child xs C k × Mem c xs × T (inside c k)
    beneath→ c j =
        let q = mem_of_bind (λ (x : ℕ). vertices_of (f x)) order j in
        let k = in_order→ xs N C q.0 q.1 in
        let d = (g q.0 k).sound c q.2 in
        (q.0, k, d.0, d.1)

    →beneath : (c : ℕ) → Mem c xs → T (strict c C) → Mem c beneath
    →beneath c k s =
        let q = child_over xs N C c k s in
        mem-bind (λ (x : ℕ). vertices_of (f x)) order (→in_order xs N C q.0 q.1) ((g q.0 q.1).complete c k q.2)

    beneath_top : Mem C beneath → ⊥
    beneath_top j =
        let q = beneath→ C j in
        let s = strict→ q.0 C q.1.strictly in
        s.1 (inside_antisym q.0 C s.0 q.3)

    beneath_once : Once beneath
    beneath_once =
        once-bind (λ (c : ℕ). vertices_of (f c)) order (order_once xs N C) (λ c k. (g c (in_order→ xs N C c k)).once)
        (λ a b c j k p q. same a b c (in_order→ xs N C a j) (in_order→ xs N C b k) p q)
      where
        same : (a b c : ℕ) → Child xs C a → Child xs C b → Mem c (vertices_of (f a)) → Mem c (vertices_of (f b)) → a ≡ b
        same a b c j k p q = go (ℕ_discrete a b)
          where
            go : Dec (a ≡ b) → a ≡ b
            go (yes e) = e
            go (no n) =
                let x = (g a j).sound c p in
                let y = (g b k).sound c q in
                absurd (N.nonzero c x.0 (zero_of_apart c (apart_of_inside a b c c (children-apart xs N C a b j k n) x.1 y.1)))

    top_is : union_of (tops_of (shapes_by f order)) ≡ C
    top_is = ap union_of tops ∙ order_union xs N C m more

    clusters_are : vertices_of (vertex (shapes_by f order)) ≡ C ∷ beneath
    clusters_are = ap₂ (λ (c : ℕ) (l : List ℕ). c ∷ l) top_is (clusters_by f order)

    in_order : T (is_ordered (vertex (shapes_by f order)))
    in_order =
        let two = subst (λ (l : List ℕ). T (leb 2 (length l))) (sym tops) (le→leb 2 (length order) (order_two xs N C m more)) in
        let rise = subst (λ (l : List ℕ). T (ascends (map smallest l))) (sym tops) (rising-map smallest order (order_rising xs N C)) in
        let each = ordered_by f order (λ c k. (g c (in_order→ xs N C c k)).ordered) in
        let l = tops_of (shapes_by f order) in
        and_T (leb 2 (length l) && ascends (map smallest l)) (are_ordered (shapes_by f order))
        (and_T (leb 2 (length l)) (ascends (map smallest l)) two rise) each

    all→ : (c : ℕ) → Mem c (C ∷ beneath) → Mem c xs × T (inside c C)
    all→ c (here e) = is_top c e
    all→ c (there j) =
        let q = beneath→ c j in
        (q.2, inside_trans c q.0 C q.3 (strict→ q.0 C q.1.strictly).0)

    →all : (c : ℕ) → Mem c xs → T (inside c C) → Mem c (C ∷ beneath)
    →all c k i = go (ℕ_discrete c C)
      where
        go : Dec (c ≡ C) → Mem c (C ∷ beneath)
        go (yes e) = here e
        go (no n) = there (→beneath c k (→strict c C i n))

    draws-vertex : Draws xs C (vertex (shapes_by f order))
    draws-vertex = record {
      top = top_is;
      ordered = in_order;
      sound = λ c j. all→ c (subst (Mem c) clusters_are j);
      complete = λ c k i. subst (Mem c) (sym clusters_are) (→all c k i);
      once = subst Once (sym clusters_are) (beneath_top, beneath_once);
    }

  step : (n : ℕ) → ((c : ℕ) → Child xs C c → Draws xs c (shape_of n xs c)) → Draws xs C (shape_of (suc n) xs C)
  unfolding shape_of
  step n g = go (T-dec (single C))
    where
      go : T (single C) ⊎ (T (single C) → ⊥) → Draws xs C (shape_of (suc n) xs C)
      go (inl h) = rw (T_true (single C) h) (draws-taxon h)
      go (inr h) = rw (T_false (single C) h) (draws-vertex h (shape_of n xs) g)

pub shape-draws : (xs : List ℕ) → Nests xs → (n C : ℕ) → Mem C xs → size C ≤ n → Draws xs C (shape_of n xs C)
shape-draws xs N zero C m h = absurd (omega (arith, size_pos C (N.nonzero C m)))
shape-draws xs N (suc n) C m h =
    step xs N C m n (λ c k. shape-draws xs N n c k.member (omega (arith, size-lt c C k.strictly)))
