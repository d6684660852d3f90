-- The lowest taxon of a cluster.
--     lowest_in        a cluster that isn't empty has it
--     lowest_dropped   a cluster without it
--     lowest-le        no taxon of the cluster is lower
--     lowest-lt        it is a taxon of the width
--     lowest-taxon     the lowest taxon of a one-taxon cluster
--     lowest_mono      a part has no lower one
--     lowest-apart     clusters that are apart have different ones
-- Assumes nothing.
use mathlib.Core.Path.{◌≡◌, refl, sym, ap₂, ◌∙◌, subst}
use mathlib.Core.Logic.{◌≢◌}
use Prim.Native.Nat.{ℕ, zero, suc, ◌*◌, ◌+◌, ◌-◌, ◌/◌, ◌%◌, ◌^◌, ◌≤◌, ◌<◌, min}
use native.Mathlib.Omega.{arith}
use lib.Bits.{bit_and, and_step}
use lib.Count.{count_trailing_zeros, under}
use lib.Dec.{T, eqb→eq}
use lib.Pow.{pow-lt}
use Rattle.laws.specs.Cluster.{inside, apart, lowest}
use Rattle.laws.proofs.Tests.{eq→eqb}
use Rattle.laws.proofs.Digits.{Has, pow_has, has_lt}
use Rattle.laws.proofs.Cluster.{inside_refl, inside_trans, has_of_inside, taxon-nonzero, apart→}

-- ---- a taxon, and the halves of the cluster

and_self : (c : ℕ) → bit_and c c ≡ c
unfolding inside
and_self c = eqb→eq (bit_and c c) c (inside_refl c)

and_one : (c : ℕ) → bit_and 1 c ≡ c % 2
and_one c = omega (arith, and_step 1 c)

and_double : (t c : ℕ) → bit_and (2 ^ suc t) c ≡ bit_and (2 ^ t) (c / 2) * 2
and_double t c =
    let half : 2 ^ suc t / 2 ≡ 2 ^ t = omega arith in
    let even : 2 ^ suc t % 2 ≡ 0 = omega arith in
    and_step (2 ^ suc t) c ∙ ap₂ (λ (x y : ℕ). bit_and x (c / 2) * 2 + min y (c % 2)) half even ∙ omega arith

inside_half : (t c : ℕ) → T (inside (2 ^ suc t) c) → T (inside (2 ^ t) (c / 2))
unfolding inside
inside_half t c h =
    eq→eqb (bit_and (2 ^ t) (c / 2)) (2 ^ t) (omega (arith, and_double t c, eqb→eq (bit_and (2 ^ suc t) c) (2 ^ suc t) h))

inside_double : (t c : ℕ) → T (inside (2 ^ t) (c / 2)) → T (inside (2 ^ suc t) c)
unfolding inside
inside_double t c h =
    eq→eqb (bit_and (2 ^ suc t) c) (2 ^ suc t) (omega (arith, and_double t c, eqb→eq (bit_and (2 ^ t) (c / 2)) (2 ^ t) h))

inside_odd : (c : ℕ) → c % 2 ≡ 1 → T (inside 1 c)
unfolding inside
inside_odd c e = eq→eqb _ _ (and_one c ∙ e)

odd_of_inside : (c : ℕ) → T (inside 1 c) → c % 2 ≡ 1
unfolding inside
odd_of_inside c h = sym (and_one c) ∙ eqb→eq (bit_and 1 c) 1 h

-- ---- the lowest

pub lowest_in : (w c : ℕ) → c < 2 ^ w → c ≢ 0 → T (inside (2 ^ lowest w c) c)
unfolding count_trailing_zeros
lowest_in zero c h n = absurd (n (omega arith))
lowest_in (suc w) c h n = go (c % 2) refl (λ k. lowest_in w (c / 2) (omega arith) k)
  where
    go : (d : ℕ) → c % 2 ≡ d → (c / 2 ≢ 0 → T (inside (2 ^ lowest w (c / 2)) (c / 2))) → T (inside (2 ^ under d (lowest w (c / 2))) c)
    go zero e ih = inside_double (lowest w (c / 2)) c (ih (λ z. n (omega arith)))
    go (suc d) e ih = inside_odd c (omega arith)

-- a number and the one before it share all taxa but the lowest
pub lowest_dropped : (w c : ℕ) → c < 2 ^ w → c ≢ 0 → bit_and c (c - 1) ≡ c - 2 ^ lowest w c
unfolding count_trailing_zeros
lowest_dropped zero c h n = absurd (n (omega arith))
lowest_dropped (suc w) c h n = and_step c (c - 1) ∙ go (c % 2) refl (λ k. lowest_dropped w (c / 2) (omega arith) k)
  where
    go : (d : ℕ) → c % 2 ≡ d → (c / 2 ≢ 0 → bit_and (c / 2) (c / 2 - 1) ≡ c / 2 - 2 ^ lowest w (c / 2))
        → bit_and (c / 2) ((c - 1) / 2) * 2 + min (c % 2) ((c - 1) % 2) ≡ c - 2 ^ under d (lowest w (c / 2))
    go zero e ih =
        let half : (c - 1) / 2 ≡ c / 2 - 1 = omega arith in
        let even : min (c % 2) ((c - 1) % 2) ≡ 0 = omega arith in
        let t = lowest w (c / 2) in
        let twice : 2 ^ suc t ≡ 2 ^ t * 2 = omega arith in
        let double : 2 ^ under 0 t ≡ 2 ^ t * 2 = twice in
        ap₂ (λ (x y : ℕ). bit_and (c / 2) x * 2 + y) half even ∙ omega (arith, double, ih (λ z. n (omega arith)))
    go (suc d) e ih =
        let half : (c - 1) / 2 ≡ c / 2 = omega arith in
        let even : min (c % 2) ((c - 1) % 2) ≡ 0 = omega arith in
        let one : 2 ^ under (suc d) (lowest w (c / 2)) ≡ 1 = refl in
        ap₂ (λ (x y : ℕ). bit_and (c / 2) x * 2 + y) half even ∙ omega (arith, one, and_self (c / 2))

pub lowest-le : (w c t : ℕ) → t < w → T (inside (2 ^ t) c) → lowest w c ≤ t
unfolding count_trailing_zeros
lowest-le zero c t l h = absurd (omega arith)
lowest-le (suc w) c zero l h = rw (odd_of_inside c h) (omega arith)
lowest-le (suc w) c (suc t) l h = go (c % 2) (lowest-le w (c / 2) t (omega arith) (inside_half t c h))
  where
    go : (d : ℕ) → lowest w (c / 2) ≤ t → under d (lowest w (c / 2)) ≤ suc t
    go zero k = omega arith
    go (suc d) k = omega arith

pub lowest-taxon : (w t : ℕ) → t < w → lowest w (2 ^ t) ≡ t
lowest-taxon w t h =
    pow_has t (lowest w (2 ^ t)) (has_of_inside (lowest w (2 ^ t)) (2 ^ t) (lowest_in w (2 ^ t) (pow-lt h) (taxon-nonzero t)))

pub lowest-lt : (w c : ℕ) → c < 2 ^ w → c ≢ 0 → lowest w c < w
lowest-lt w c h n = has_lt w c (lowest w c) h (has_of_inside (lowest w c) c (lowest_in w c h n))

module _ (w a b : ℕ) (ha : a < 2 ^ w) (na : a ≢ 0) where
  pub lowest_mono : T (inside a b) → lowest w b ≤ lowest w a
  lowest_mono i = lowest-le w b (lowest w a) (lowest-lt w a ha na) (inside_trans (2 ^ lowest w a) a b (lowest_in w a ha na) i)

  pub lowest-apart : b < 2 ^ w → b ≢ 0 → T (apart a b) → lowest w a ≢ lowest w b
  lowest-apart hb nb h e =
      apart→ a b h (lowest w a) (has_of_inside (lowest w a) a (lowest_in w a ha na))
      (subst (Has b) (sym e) (has_of_inside (lowest w b) b (lowest_in w b hb nb)))
