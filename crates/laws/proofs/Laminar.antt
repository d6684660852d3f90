-- Families of clusters any two of which are nested or apart: on t taxa they have at most 2 t - 1 members. A family is a test of clusters.
--     Measure μ M        μ measures families: in two parts no less, 0 for no member, at most M for one
--     count_measure      the number of members is one
--     Laminar L C S      the family S of clusters of L inside C nests
--     laminar_le         it measures at most M (2 size C - 1), by any measure
-- Assumes nothing.
use mathlib.Core.Path.{◌≡◌, ap, subst}
use mathlib.Core.Logic.{◌≢◌}
use mathlib.Core.Bool.{Bool, not, ◌&&◌}
use mathlib.Core.List.{List, [], ◌∷◌}
use mathlib.Core.List.Memᴰ.{head as here}
use mathlib.Core.List.{Memᴰ as Mem}
use Prim.Native.Nat.{ℕ, zero, suc, ◌+◌, ◌-◌, ◌*◌, ◌≤◌, ◌<◌}
use native.Mathlib.Nat.{le_antisymm, le_refl, mul-add, mul-le-mul_left}
use native.Mathlib.Omega.{arith}
use lib.Dec.{T, eqb, eqb→eq, T_not}
use lib.ListN.{length}
use Rattle.laws.specs.Cluster.{inside, nested, size}
use Rattle.laws.specs.Lists.{keep, Once}
use Rattle.laws.proofs.Tests.{T_and, neq→}
use Rattle.laws.proofs.Keep.{mem_of_keep, keep-none}
use Rattle.laws.proofs.Largest.{Top, none, at, top}
use Rattle.laws.proofs.KeepCount.{length-keep_split}
use Rattle.laws.proofs.Once.{once-keep, once-length-le}
use Rattle.laws.proofs.Cluster.{le_of_inside, inside_refl, inside_rest}
use Rattle.laws.proofs.Cluster.{Nest, below, above, away, nested→}
use Rattle.laws.proofs.Taxa.{size_pos, size_part}

pub record Measure (μ : (ℕ → Bool) → ℕ) (M : ℕ) : Type 0 where
  pub split : (S p : ℕ → Bool) → μ S ≤ μ (λ c. S c && p c) + μ (λ c. S c && not (p c))
  pub none : (S : ℕ → Bool) → ((c : ℕ) → T (S c) → ⊥) → μ S ≡ 0
  pub one : (S : ℕ → Bool) (c : ℕ) → ((x : ℕ) → T (S x) → x ≡ c) → μ S ≤ M

pub count_measure : (L : List ℕ) → Once L → Measure (λ S. length (keep S L)) 1
count_measure L o = record {
  split = λ S p. omega (arith, length-keep_split S p L);
  none = λ S f. ap length (keep-none S L (λ c _. f c));
  one = λ S c f. once-length-le (keep S L) (c ∷ []) (once-keep S L o) (λ x m. here (f x (mem_of_keep S L m).1));
}

-- ---- families that nest

pub record Laminar (L : List ℕ) (C : ℕ) (S : ℕ → Bool) : Type 0 where
  pub listed : (c : ℕ) → T (S c) → Mem c L
  pub nonzero : (c : ℕ) → T (S c) → c ≢ 0
  pub within : (c : ℕ) → T (S c) → T (inside c C)
  pub nest : (a b : ℕ) → T (S a) → T (S b) → T (nested a b)

-- some of the members, inside a part of C
laminar_part : (L : List ℕ) (C D : ℕ) (S U : ℕ → Bool) → Laminar L C S → ((c : ℕ) → T (U c) → T (S c) × T (inside c D)) → Laminar L D U
laminar_part L C D S U l f = record {
  listed = λ c u. l.listed c (f c u).0;
  nonzero = λ c u. l.nonzero c (f c u).0;
  within = λ c u. (f c u).1;
  nest = λ a b u v. l.nest a b (f a u).0 (f b v).0;
}

module _ (L : List ℕ) (μ : (ℕ → Bool) → ℕ) (M : ℕ) (measure : Measure μ M) where
  abbrev Small : ℕ → Type 0
  Small C = (S : ℕ → Bool) → Laminar L C S → μ S + M ≤ 2 * M * size C

  module _ (C : ℕ) (S : ℕ → Bool) (l : Laminar L C S) where
    -- the members but C
    low : ℕ → Bool
    low c = S c && not (eqb c C)

    low→ : (c : ℕ) → T (low c) → T (S c) × (c ≢ C)
    unfolding low
    low→ c h = let q = T_and (S c) (not (eqb c C)) h in (q.0, neq→ c C q.1)

    top-le : μ S ≤ M + μ low
    unfolding low
    top-le =
        let h = measure.one (λ (c : ℕ). S c && eqb c C) C (λ c t. eqb→eq c C (T_and (S c) (eqb c C) t).1) in
        omega (arith, measure.split S (λ (c : ℕ). eqb c C))

    low-none : C ≢ 0 → ((c : ℕ) → T (low c) → ⊥) → μ S + M ≤ 2 * M * size C
    low-none n f = omega (arith, top-le, measure.none low f, mul-le-mul_left (2 * M) (size_pos C n))

    -- those below C are inside the largest of them, or inside what is left of C
    module _ (k : ℕ) (t : T (low k)) (large : (x : ℕ) → Mem x L → T (low x) → x ≤ k) where
      part : Laminar L k (λ c. low c && inside c k)
      part = laminar_part L C k S (λ c. low c && inside c k) l (λ c h. let q = T_and (low c) (inside c k) h in ((low→ c q.0).0, q.1))

      rest : Laminar L (C - k) (λ c. low c && not (inside c k))
      rest = laminar_part L C (C - k) S (λ c. low c && not (inside c k)) l (λ c h.
          let q = T_and (low c) (not (inside c k)) h in
          let s = (low→ c q.0).0 in
          (s, go c q.0 (T_not (inside c k) q.1) (nested→ c k (l.nest c k s (low→ k t).0))))
        where
          go : (c : ℕ) → T (low c) → (T (inside c k) → ⊥) → Nest c k → T (inside c (C - k))
          go c h n (below i) = absurd (n i)
          go c h n (above i) =
              let e : k ≡ c = le_antisymm (le_of_inside k c i) (large c (l.listed c (low→ c h).0) h) in
              absurd (n (subst (λ (x : ℕ). T (inside x k)) e (inside_refl k)))
          go c h n (away a) = inside_rest c k C (l.within c (low→ c h).0) (l.within k (low→ k t).0) a

      two_parts : ((D : ℕ) → size D < size C → D ≢ 0 → Small D) → μ S + M ≤ 2 * M * size C
      two_parts small =
          let i = l.within k (low→ k t).0 in
          let nk = l.nonzero k (low→ k t).0 in
          let nr : C - k ≢ 0 = λ e. (low→ k t).1 (omega (arith, le_of_inside k C i)) in
          let e = size_part k C i in
          let a = small k (omega (arith, size_pos (C - k) nr)) nk (λ c. low c && inside c k) part in
          let b = small (C - k) (omega (arith, size_pos k nk)) nr (λ c. low c && not (inside c k)) rest in
          let m : 2 * M * size C ≡ 2 * M * size k + 2 * M * size (C - k) = rw (← e) (mul-add (2 * M) (size k) (size (C - k))) in
          omega (arith, top-le, measure.split low (λ (c : ℕ). inside c k))

  small_step : (C : ℕ) → C ≢ 0 → ((D : ℕ) → size D < size C → D ≢ 0 → Small D) → Small C
  small_step C n small S l = go (top (low C S l) L)
    where
      go : Top (low C S l) L → μ S + M ≤ 2 * M * size C
      go (none f) = low-none C S l n (λ c h. f c (l.listed c (low→ C S l c h).0) h)
      go (at q) = two_parts C S l q.number q.passes q.most small

  -- by the size of the cluster
  small_all : (n C : ℕ) → size C ≤ n → C ≢ 0 → Small C
  small_all zero C h z = absurd (omega (arith, size_pos C z))
  small_all (suc n) C h z = small_step C z (λ D k. small_all n D (omega arith))

  pub laminar_le : (C : ℕ) → C ≢ 0 → (S : ℕ → Bool) → Laminar L C S → μ S + M ≤ 2 * M * size C
  laminar_le C n = small_all (size C) C (le_refl (size C)) n
