-- The children of a member of clusters that nest, `Nests` of `specs/Nests.antt`.
--     Child xs C c, child→, →child     c is a child of C, as facts
--     child_with_child       the largest member with a taxon, strictly inside C, is a child of C
--     child_over            a member strictly inside C lies inside a child of C
--     children-apart        two children are apart
--     taxon-strict          a single taxon lies strictly inside C, where C isn't one itself
--     children-union, children_two     the children make up C, and are two at least
-- Assumes nothing.
use mathlib.Core.Path.{◌≡◌, sym, subst}
use mathlib.Core.Logic.{◌≢◌}
use mathlib.Core.Bool.{Bool, not, ◌&&◌}
use mathlib.Core.List.Memᴰ
use mathlib.Core.List.{List, [], ◌∷◌}
use mathlib.Core.List.Memᴰ.{head as here}
use mathlib.Core.List.Memᴰ.{not-nil as mem-nil}
use mathlib.Core.List.Memᴰ.{tail as there}
use mathlib.Core.List.{Memᴰ as Mem}
use Prim.Native.Nat.{ℕ, ◌-◌, ◌^◌, ◌≤◌, ◌<◌, max}
use native.Mathlib.Decide.{ℕ_discrete, dec_le}
use native.Mathlib.Omega.{arith}
use lib.Dec.{T, T_not, not_T}
use lib.ListN.{length}
use Rattle.laws.specs.Cluster.{inside, strict, apart, nested, single, union_of}
use Rattle.laws.specs.Lists.{keep, any}
use Rattle.laws.proofs.Tests.{T_and, and_T}
use Rattle.laws.proofs.Keep.{mem-keep, mem_of_keep, any→, →any}
use Rattle.laws.proofs.Cluster.{inside_refl, inside_trans, inside_antisym, le_of_inside, has_of_inside, inside_of_taxa, apart→}
use Rattle.laws.proofs.Cluster.{strict→, →strict, Nest, below, above, away, nested→, inside-union_of, union_of-inside, two_parts}
use Rattle.laws.proofs.Taxa.{→single}
use Rattle.laws.proofs.Lowest.{lowest_in}
use Rattle.trees.specs.Heaviest.{largest}
use Rattle.trees.specs.Tree.{children}
use Rattle.trees.proofs.Ties.TieRule.{largest-le}
use Rattle.shapes.specs.Shape.{smallest}
use Rattle.shapes.specs.Parts.{child_with}
use Rattle.shapes.specs.Nests.{Nests}

-- ---- the largest of some clusters

max-mem : (c m : ℕ) (cs : List ℕ) → Mem m (c ∷ cs) → Mem (max c m) (c ∷ cs)
max-mem c m cs k = go (dec_le c m)
  where
    go : Dec (c ≤ m) → Mem (max c m) (c ∷ cs)
    go (yes h) = Memᴰ.cast (omega arith) k
    go (no h) = let e : max c m ≡ c = omega arith in here e

largest-mem : (c : ℕ) (cs : List ℕ) → Mem (largest (c ∷ cs)) (c ∷ cs)
largest-mem c [] = let e : max c 0 ≡ c = omega arith in here e
largest-mem c (x ∷ cs) = max-mem c (largest (x ∷ cs)) (x ∷ cs) (there (largest-mem x cs))

largest_of : (l : List ℕ) (x : ℕ) → Mem x l → Mem (largest l) l
largest_of [] x m = absurd (mem-nil m)
largest_of (c ∷ cs) x m = largest-mem c cs

-- ---- children

module _ (xs : List ℕ) (C : ℕ) where
  abbrev between : ℕ → ℕ → Bool
  between k l = strict l C && strict k l

  abbrev is_child : ℕ → Bool
  is_child k = strict k C && not (any (between k) xs)

  pub record Child (c : ℕ) : Type 0 where
    pub member : Mem c xs
    pub strictly : T (strict c C)
    pub largest : (l : ℕ) → Mem l xs → T (strict l C) → T (strict c l) → ⊥

  pub child→ : (c : ℕ) → Mem c (children xs C) → Child c
  child→ c m =
      let q = mem_of_keep is_child xs m in
      let r = T_and (strict c C) (not (any (between c) xs)) q.1 in
      record {
        member = q.0;
        strictly = r.0;
        largest = λ l k h i. T_not (any (between c) xs) r.1 (→any (between c) xs k (and_T (strict l C) (strict c l) h i));
      }

  pub →child : (c : ℕ) → Child c → Mem c (children xs C)
  →child c k =
      mem-keep is_child xs k.member (and_T (strict c C) (not (any (between c) xs)) k.strictly (not_T (any (between c) xs) none))
    where
      none : T (any (between c) xs) → ⊥
      none h =
          let q = any→ (between c) xs h in
          let r = T_and (strict q.0 C) (strict c q.0) q.2 in
          k.largest q.0 q.1 r.0 r.1

module _ (xs : List ℕ) (N : Nests xs) (C : ℕ) where
  -- ---- the child with a taxon
  module _ (t c : ℕ) (m : Mem c xs) (s : T (strict c C)) (i : T (inside (2 ^ t) c)) where
    abbrev holds : ℕ → Bool
    holds k = strict k C && inside (2 ^ t) k

    found : Mem (child_with xs C t) xs × T (strict (child_with xs C t) C) × T (inside (2 ^ t) (child_with xs C t))
    found =
        let q = mem_of_keep holds xs (largest_of (keep holds xs) c (mem-keep holds xs m (and_T (strict c C) (inside (2 ^ t) c) s i))) in
        let r = T_and (strict (child_with xs C t) C) (inside (2 ^ t) (child_with xs C t)) q.1 in
        (q.0, r.0, r.1)

    pub child_with_child : Child xs C (child_with xs C t) × T (inside (2 ^ t) (child_with xs C t))
    child_with_child = (record { member = found.0; strictly = found.1; largest = none }, found.2)
      where
        k : ℕ
        k = child_with xs C t

        none : (l : ℕ) → Mem l xs → T (strict l C) → T (strict k l) → ⊥
        none l j h b =
            let q = strict→ k l b in
            let i = inside_trans (2 ^ t) k l found.2 q.0 in
            let le = largest-le (keep holds xs) l (mem-keep holds xs j (and_T (strict l C) (inside (2 ^ t) l) h i)) in
            q.1 (omega (arith, le_of_inside k l q.0))

  -- ---- members and children
  pub child_over : (c : ℕ) → Mem c xs → T (strict c C) → (k : ℕ) × Child xs C k × T (inside c k)
  child_over c m s = (k, q.0, go (nested→ c k (N.nest c k m q.0.member)))
    where
      low : T (inside (2 ^ smallest c) c)
      low = lowest_in 64 c (N.small c m) (N.nonzero c m)

      k : ℕ
      k = child_with xs C (smallest c)

      q : Child xs C k × T (inside (2 ^ smallest c) k)
      q = child_with_child (smallest c) c m s low

      go : Nest c k → T (inside c k)
      go (below i) = i
      go (above i) = same (ℕ_discrete k c)
        where
          same : Dec (k ≡ c) → T (inside c k)
          same (yes e) = subst (λ (x : ℕ). T (inside x k)) e (inside_refl k)
          same (no n) = absurd (q.0.largest c m s (→strict k c i n))
      go (away a) = absurd (apart→ c k a (smallest c) (has_of_inside (smallest c) c low) (has_of_inside (smallest c) k q.1))

  pub children-apart : (a b : ℕ) → Child xs C a → Child xs C b → a ≢ b → T (apart a b)
  children-apart a b p q n = go (nested→ a b (N.nest a b p.member q.member))
    where
      go : Nest a b → T (apart a b)
      go (below i) = absurd (p.largest b q.member q.strictly (→strict a b i n))
      go (above i) = absurd (q.largest a p.member p.strictly (→strict b a i (λ e. n (sym e))))
      go (away x) = x

  -- ---- the children make up C
  module _ (m : Mem C xs) (more : T (single C) → ⊥) where
    pub taxon-strict : (t : ℕ) → T (inside (2 ^ t) C) → T (strict (2 ^ t) C)
    taxon-strict t i = →strict (2 ^ t) C i (λ e. more (subst (λ (x : ℕ). T (single x)) e (→single t)))

    module _ (cs : List ℕ) (f : (c : ℕ) → Mem c cs → Child xs C c) (g : (c : ℕ) → Child xs C c → Mem c cs) where
      pub children-union : union_of cs ≡ C
      children-union =
          inside_antisym (union_of cs) C (union_of-inside cs C (λ c k. (strict→ c C (f c k).strictly).0))
          (inside_of_taxa 64 C (union_of cs) (N.small C m) taxon_in)
        where
          taxon_in : (t : ℕ) → t < 64 → T (inside (2 ^ t) C) → T (inside (2 ^ t) (union_of cs))
          taxon_in t h i =
              let k = child_with xs C t in
              let q = child_with_child t (2 ^ t) (N.leaves C t m i) (taxon-strict t i) (inside_refl (2 ^ t)) in
              inside_trans (2 ^ t) k (union_of cs) q.1 (inside-union_of cs k (g k q.0))

      pub children_two : 2 ≤ length cs
      children_two = two_parts cs C children-union (N.nonzero C m) (λ c k. (strict→ c C (f c k).strictly).1)
