-- The taxa of a column's cluster.
--     ones_iff         the taxa of the cluster of a column are the lines with a 1
--     ones-only        no other cluster has just these
--     all_is, all_iff  the cluster of all lines is that of a column of ones, and has every line for a taxon
--     all-only         no other cluster has just these
--     read_iff         a column has no ?
-- Assumes nothing.
use mathlib.Core.Path.{◌≡◌, refl, sym, ap, ◌∙◌, subst}
use mathlib.Core.Logic.{◌⊎◌, inl, inr, ◌↔◌}
use mathlib.Core.Bool.{Bool, true, false, cond}
use mathlib.Core.List.{List}
use Prim.Native.Nat.{ℕ, zero, suc, ◌+◌, ◌^◌, ◌≤◌, ◌<◌}
use native.Mathlib.Decide.{dec_le}
use native.Mathlib.Nat.{pow-suc}
use native.Mathlib.Omega.{arith}
use lib.Bits.{bit_or}
use lib.Dec.{T, eqb, eqb→eq}
use lib.Pow.{pow_pos}
use Rattle.laws.specs.Cluster.{inside}
use Rattle.laws.specs.Orders.{down_to}
use Rattle.laws.proofs.Cluster.{taxa-only, →apart, inside_of_has, has_of_inside, union-apart}
use Rattle.laws.proofs.Digits.{Has, or_has, has_or_l, has_or_r, not_has_zero, pow_has, has_pow, has_lt}
use Rattle.laws.proofs.Down.{down_length, elem_down_iff}
use Rattle.laws.proofs.Tests.{eq→eqb, T_true}
use Rattle.gel.specs.Lines.{one, unread, line_count}
use Rattle.gel.specs.Columns.{is_unread, cluster_of, all_of, mark_at, column_at}
use Rattle.gel.specs.Facts.{IsRead, OnesOf, AreLines}
use Rattle.gel.proofs.Laws.Columns.{cluster-lt}

-- marks by their lines
module _ (f : ℕ → ℕ) where
  abbrev column : ℕ → List ℕ
  column n = down_to f n

  column-lt : (n : ℕ) → cluster_of (column n) < 2 ^ n
  column-lt n = subst (λ (k : ℕ). cluster_of (column n) < 2 ^ k) (down_length f n) (cluster-lt (column n))

  -- the last line is a taxon of its own
  joined : (n : ℕ) → 2 ^ n + cluster_of (column n) ≡ bit_or (2 ^ n) (cluster_of (column n))
  joined n =
      sym (union-apart (2 ^ n) (cluster_of (column n)) (→apart (2 ^ n) (cluster_of (column n))
      (λ t h k. omega (arith, pow_has n t h, has_lt n (cluster_of (column n)) t (column-lt n) k))))

  -- one line more
  abbrev more : Bool → ℕ → ℕ
  more b n = cond b (2 ^ n) 0 + cluster_of (column n)

  more_is : (n : ℕ) → cluster_of (column (suc n)) ≡ more (eqb (f n) one) n
  more_is n = ap (λ (k : ℕ). cond (eqb (f n) one) (2 ^ k) 0 + cluster_of (column n)) (down_length f n)

  has→ones : (n t : ℕ) → Has (cluster_of (column n)) t → (t < n) × (f t ≡ one)
  has→ones zero t h = absurd (not_has_zero t h)
  has→ones (suc n) t h =
      go (eqb (f n) one) refl (subst (λ (c : ℕ). Has c t) (more_is n) h) (has→ones n t)
    where
      later : (t < n) × (f t ≡ one) → (t < suc n) × (f t ≡ one)
      later q = (omega (arith, q.0), q.1)

      here_or : eqb (f n) one ≡ true → Has (2 ^ n) t ⊎ Has (cluster_of (column n)) t → (Has (cluster_of (column n)) t → (t < n) × (f t ≡ one))
          → (t < suc n) × (f t ≡ one)
      here_or e (inl k) ih =
          let q = pow_has n t k in (omega (arith, q), ap f q ∙ eqb→eq (f n) one (subst T (sym e) tt))
      here_or e (inr k) ih = later (ih k)

      go : (b : Bool) → eqb (f n) one ≡ b → Has (more b n) t → (Has (cluster_of (column n)) t → (t < n) × (f t ≡ one))
          → (t < suc n) × (f t ≡ one)
      go true e k ih = here_or e (or_has (2 ^ n) (cluster_of (column n)) t (subst (λ (c : ℕ). Has c t) (joined n) k)) ih
      go false e k ih = later (ih (subst (λ (c : ℕ). Has c t) (none (cluster_of (column n))) k))
        where
          none : (c : ℕ) → 0 + c ≡ c
          none c = omega arith

  ones→has : (n t : ℕ) → t < n → f t ≡ one → Has (cluster_of (column n)) t
  ones→has zero t h e = absurd (omega (arith, h))
  ones→has (suc n) t h e = subst (λ (c : ℕ). Has c t) (sym (more_is n)) (go (dec_le n t) (λ k. ones→has n t k e))
    where
      below : (b : Bool) → Has (cluster_of (column n)) t → Has (more b n) t
      below true k = subst (λ (c : ℕ). Has c t) (sym (joined n)) (has_or_r (2 ^ n) (cluster_of (column n)) t k)
      below false k = subst (λ (c : ℕ). Has c t) (none (cluster_of (column n))) k
        where
          none : (c : ℕ) → c ≡ 0 + c
          none c = omega arith

      go : Dec (n ≤ t) → (t < n → Has (cluster_of (column n)) t) → Has (more (eqb (f n) one) n) t
      go (yes k) ih =
          let q : t ≡ n = omega (arith, h, k) in
          subst (λ (b : Bool). Has (more b n) t) (sym (T_true (eqb (f n) one) (eq→eqb (f n) one (ap f (sym q) ∙ e))))
          (subst (λ (c : ℕ). Has c t) (sym (joined n))
          (has_or_l (2 ^ n) (cluster_of (column n)) t (subst (λ (k : ℕ). Has (2 ^ k) t) q (has_pow t))))
      go (no k) ih = below (eqb (f n) one) (ih (omega (arith, k)))

module _ (s : List ℕ) (j : ℕ) where
  pub ones_iff : OnesOf s j (cluster_of (column_at s j))
  ones_iff i = (
    λ h. has→ones (λ (k : ℕ). mark_at s k j) (line_count s) i (has_of_inside i (cluster_of (column_at s j)) h),
    λ q. inside_of_has i (cluster_of (column_at s j)) (ones→has (λ (k : ℕ). mark_at s k j) (line_count s) i q.0 q.1),
  )

  pub ones-only : (c : ℕ) → OnesOf s j c → c ≡ cluster_of (column_at s j)
  ones-only c h = taxa-only c (cluster_of (column_at s j)) (λ i. (λ k. (ones_iff i).1 ((h i).0 k), λ k. (h i).1 ((ones_iff i).0 k)))

  pub read_iff : (T (is_unread (column_at s j)) → ⊥) ↔ IsRead s j
  read_iff =
      let some = elem_down_iff (λ (i : ℕ). mark_at s i j) (line_count s) unread in
      (λ n i h e. n (some.1 (i, h, sym e)), λ r t. let q = some.0 t in r q.0 q.1 (sym q.2))

-- ---- all lines

pub all_is : (n : ℕ) → cluster_of (down_to (λ (i : ℕ). one) n) ≡ all_of n
all_is zero = refl
all_is (suc n) =
    omega (
      arith,
      ap (λ (k : ℕ). 2 ^ k) (down_length (λ (i : ℕ). one) n),
      all_is n,
      pow_pos n,
      pow-suc 2 n,
    )

pub all_iff : (s : List ℕ) → AreLines s (all_of (line_count s))
all_iff s i = (to, from)
  where
    to : T (inside (2 ^ i) (all_of (line_count s))) → i < line_count s
    to h =
        let ones = subst (λ (c : ℕ). Has c i) (sym (all_is (line_count s))) (has_of_inside i (all_of (line_count s)) h) in
        (has→ones (λ (k : ℕ). one) (line_count s) i ones).0

    from : i < line_count s → T (inside (2 ^ i) (all_of (line_count s)))
    from h =
        let ones = ones→has (λ (k : ℕ). one) (line_count s) i h refl in
        inside_of_has i (all_of (line_count s)) (subst (λ (c : ℕ). Has c i) (all_is (line_count s)) ones)

pub all-only : (s : List ℕ) (c : ℕ) → AreLines s c → c ≡ all_of (line_count s)
all-only s c h = taxa-only c (all_of (line_count s)) (λ i. (λ k. (all_iff s i).1 ((h i).0 k), λ k. (h i).1 ((all_iff s i).0 k)))
