-- The children of a member in order of their smallest taxon, and how a writer meets them one after another.
--     →in_order, in_order→          the children in order are the children
--     order_rising, order_once, order_union, order_two     they rise by smallest taxon, none twice, make up C, are two at least
--     Left left                     the taxa left are those of the children not yet written
--     left-top                      at first they are all of C's
--     next_child, next_inside, next_left     the next child, that it lies in what is left, and what is left after it
--     parts_in left, parts_none, parts_more, parts_all     the children in what is left: none, one and the others, all
-- Assumes nothing.
use mathlib.Core.Path.{◌≡◌, sym, subst}
use mathlib.Core.Logic.{◌⊎◌, inl, inr, ◌≢◌}
use mathlib.Core.List.Memᴰ
use mathlib.Core.List.{List, [], ◌∷◌}
use mathlib.Core.List.Memᴰ.{head as here}
use mathlib.Core.List.Memᴰ.{tail as there}
use mathlib.Core.List.{Memᴰ as Mem}
use Prim.Native.Nat.{ℕ, ◌-◌, ◌^◌, ◌≤◌, ◌<◌}
use native.Mathlib.Decide.{ℕ_discrete}
use native.Mathlib.Omega.{arith}
use lib.Dec.{T}
use lib.ListN.{length}
use Rattle.laws.specs.Cluster.{inside, apart, single, union_of}
use Rattle.laws.specs.Lists.{keep, Once}
use Rattle.laws.proofs.Keep.{mem-keep, mem_of_keep, keep-none, keep_all}
use Rattle.laws.proofs.Once.{once-keep}
use Rattle.laws.proofs.Falling.{in_turn_keep}
use Rattle.laws.proofs.Sort.{mem_sort, mem_of_sort}
use Rattle.laws.proofs.Cluster.{inside_refl, inside_trans, le_of_inside, zero_of_inside, has_of_inside, apart→}
use Rattle.laws.proofs.Cluster.{apart_of_inside, strict→, rest_apart, rest_inside, inside_rest}
use Rattle.laws.proofs.Lowest.{lowest_in, lowest-le, lowest-lt, lowest_mono, lowest-apart}
use Rattle.trees.specs.Tree.{children}
use Rattle.shapes.specs.Shape.{smallest}
use Rattle.shapes.specs.Drawn.{children_in_order}
use Rattle.shapes.specs.Parts.{child_with}
use Rattle.shapes.specs.Nests.{Nests}
use Rattle.shapes.proofs.Sorted.{RisingBy, rising-once, rising-only, sort_rising}
use Rattle.shapes.proofs.Nests.{Child, child→, →child, child_with_child, children-apart}
use Rattle.shapes.proofs.Nests.{taxon-strict, children-union, children_two}

-- ---- in order

module _ (xs : List ℕ) (N : Nests xs) (C : ℕ) where
  abbrev order : List ℕ
  order = children_in_order xs C

  pub in_order→ : (c : ℕ) → Mem c order → Child xs C c
  in_order→ c m = child→ xs C c (mem_of_sort _ (children xs C) m)

  pub →in_order : (c : ℕ) → Child xs C c → Mem c order
  →in_order c k = mem_sort _ (children xs C) (→child xs C c k)

  small : (c : ℕ) → Child xs C c → c < 2 ^ 64
  small c k = N.small c k.member

  nonzero : (c : ℕ) → Child xs C c → c ≢ 0
  nonzero c k = N.nonzero c k.member

  smallest_inj : (a b : ℕ) → Child xs C a → Child xs C b → smallest a ≡ smallest b → a ≡ b
  smallest_inj a b p q e = go (ℕ_discrete a b)
    where
      go : Dec (a ≡ b) → a ≡ b
      go (yes h) = h
      go (no n) = absurd (lowest-apart 64 a b (small a p) (nonzero a p) (small b q) (nonzero b q) (children-apart xs N C a b p q n) e)

  pub order_rising : RisingBy smallest order
  order_rising =
      sort_rising smallest (children xs C) (once-keep _ xs N.once) (λ a b m k. smallest_inj a b (child→ xs C a m) (child→ xs C b k))

  pub order_once : Once order
  order_once = rising-once smallest order order_rising

  -- ---- what is left
  pub record Left (left : ℕ) : Type 0 where
    pub within : T (inside left C)
    pub whole : (c : ℕ) → Child xs C c → T (inside c left) ⊎ T (apart c left)

  pub left-top : Left C
  left-top = record { within = inside_refl C; whole = λ c k. inl (strict→ c C k.strictly).0 }

  abbrev pub parts_in : ℕ → List ℕ
  parts_in left = keep (λ (c : ℕ). inside c left) order

  pub parts_none : parts_in 0 ≡ []
  parts_none = keep-none (λ (c : ℕ). inside c 0) order (λ c m h. nonzero c (in_order→ c m) (zero_of_inside c h))

  pub parts_all : parts_in C ≡ order
  parts_all = keep_all (λ (c : ℕ). inside c C) order (λ c m. (strict→ c C (in_order→ c m).strictly).0)

  module _ (m : Mem C xs) (more : T (single C) → ⊥) where
    pub order_union : union_of order ≡ C
    order_union = children-union xs N C m more order in_order→ →in_order

    pub order_two : 2 ≤ length order
    order_two = children_two xs N C m more order in_order→ →in_order

    -- ---- the next child
    module _ (left : ℕ) (l : Left left) (n : left ≢ 0) where
      abbrev next : ℕ
      next = child_with xs C (smallest left)

      left-small : left < 2 ^ 64
      left-small = omega (arith, le_of_inside left C l.within, N.small C m)

      low : T (inside (2 ^ smallest left) left)
      low = lowest_in 64 left left-small n

      found : Child xs C next × T (inside (2 ^ smallest left) next)
      found =
          let i = inside_trans (2 ^ smallest left) left C low l.within in
          child_with_child xs N C (smallest left) (2 ^ smallest left) (N.leaves C (smallest left) m i)
          (taxon-strict xs N C m more (smallest left) i) (inside_refl (2 ^ smallest left))

      pub next_child : Child xs C next
      next_child = found.0

      pub next_inside : T (inside next left)
      next_inside = go (l.whole next next_child)
        where
          go : T (inside next left) ⊎ T (apart next left) → T (inside next left)
          go (inl i) = i
          go (inr a) =
              let t = smallest left in
              absurd (apart→ next left a t (has_of_inside t next found.1) (has_of_inside t left low))

      pub next_left : Left (left - next)
      next_left = record {
        within = inside_trans (left - next) left C inner l.within;
        whole = λ c k. go c k (ℕ_discrete c next) (l.whole c k);
      }
        where
          inner : T (inside (left - next) left)
          inner = rest_inside next left next_inside

          go : (c : ℕ) → Child xs C c → Dec (c ≡ next) → T (inside c left) ⊎ T (apart c left)
              → T (inside c (left - next)) ⊎ T (apart c (left - next))
          go c k (yes e) h = inr (subst (λ (x : ℕ). T (apart x (left - next))) (sym e) (rest_apart next left next_inside))
          go c k (no d) (inl i) = inl (inside_rest c next left i next_inside (children-apart xs N C c next k next_child d))
          go c k (no d) (inr a) = inr (apart_of_inside c left c (left - next) a (inside_refl c) inner)

      -- ---- it comes first of those left
      next_low : smallest next ≤ smallest left
      next_low = lowest-le 64 next (smallest left) (lowest-lt 64 left left-small n) found.1

      -- a child in what is left after it
      later : (c : ℕ) → Mem c (parts_in (left - next)) → Child xs C c × T (inside c (left - next))
      later c k = let q = mem_of_keep (λ (x : ℕ). inside x (left - next)) order k in (in_order→ c q.0, q.1)

      first-rising : RisingBy smallest (next ∷ parts_in (left - next))
      first-rising = (above, in_turn_keep _ (λ (c : ℕ). inside c (left - next)) order order_rising)
        where
          above : (c : ℕ) → Mem c (parts_in (left - next)) → smallest next < smallest c
          above c k =
              let q = later c k in
              let i = inside_trans c (left - next) left q.1 (rest_inside next left next_inside) in
              let a = apart_of_inside next (left - next) next c (rest_apart next left next_inside) (inside_refl next) q.1 in
              let d = lowest-apart 64 next c (small next next_child) (nonzero next next_child) (small c q.0) (nonzero c q.0) a in
              omega (arith, next_low, lowest_mono 64 c left (small c q.0) (nonzero c q.0) i)

      pub parts_more : parts_in left ≡ next ∷ parts_in (left - next)
      parts_more =
          rising-only smallest (parts_in left) (next ∷ parts_in (left - next))
          (in_turn_keep _ (λ (c : ℕ). inside c left) order order_rising) first-rising (record { to = to; from = from })
        where
          to : (c : ℕ) → Mem c (parts_in left) → Mem c (next ∷ parts_in (left - next))
          to c k = go (ℕ_discrete c next)
            where
              q : Mem c order × T (inside c left)
              q = mem_of_keep (λ (x : ℕ). inside x left) order k

              go : Dec (c ≡ next) → Mem c (next ∷ parts_in (left - next))
              go (yes e) = here e
              go (no d) =
                  let a = children-apart xs N C c next (in_order→ c q.0) next_child d in
                  there (mem-keep (λ (x : ℕ). inside x (left - next)) order q.0 (inside_rest c next left q.1 next_inside a))

          from : (c : ℕ) → Mem c (next ∷ parts_in (left - next)) → Mem c (parts_in left)
          from c (here e) = Memᴰ.cast e (mem-keep (λ (x : ℕ). inside x left) order (→in_order next next_child) next_inside)
          from c (there k) =
              let q = later c k in
              mem-keep (λ (x : ℕ). inside x left) order (→in_order c q.0)
              (inside_trans c (left - next) left q.1 (rest_inside next left next_inside))
