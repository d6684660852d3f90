-- The record rules: which one is told, and what is known of a cluster, a weight and a state that break none.
--     rule_empty, rule_state, rule_spare, rule_unscored, rule_last     each rule in its turn
--     score-state, score-unscored, score_last     weight and state, one test after the other
--     score→keeps, keeps→score  weight and state keep the rules exactly where `KeepsScore` holds
--     kept→keeps, keeps→kept    no rule is broken exactly where `Keeps` holds
--     rules→, →rules            the same of a row, its cluster being within the width
-- Assumes nothing.
use mathlib.Core.Path.{◌≡◌, refl, ap}
use mathlib.Core.Logic.{◌≢◌}
use mathlib.Core.Bool.{Bool, true, false, not, ◌&&◌, cond}
use Prim.Native.Nat.{ℕ, ◌^◌, ◌<◌}
use borrow.Author.Tests.{eq-eqb, ne_eqb}
use lib.Dec.{T, eqb, ltb, eqb→eq, leb→le, le→leb, ltb→lt, lt→ltb, T_not, not_T}
use lib.IntN.{ℤ, pos, nat_abs}
use mir.Facts.{T_not-not}
use Rattle.laws.specs.Limits.{Width, weight_max}
use Rattle.laws.specs.Row.{Row}
use Rattle.laws.specs.State.{unscored, is_state}
use Rattle.laws.proofs.Integers.{zero_of_abs}
use Rattle.laws.proofs.Tests.{T_and, and_T, T_false, neq→, →neq}
use Rattle.std.specs.Prelude.{None, Some}
use Rattle.cluster.specs.declared.rule.Rule.TheVariants.{EmptyCluster, UnknownState, SpareBytes, UnscoredWeight, WeightRange}
use Rattle.cluster.specs.Rule.{in_range, unscored_weight, broken_rule, is_kept, is_score, keeps_rules, KeepsScore, Keeps}

-- ---- each rule in its turn

module _ (c : ℕ) (z : ℤ) (s : ℕ) (spare : Bool) where
  pub rule_empty : c ≡ 0 → broken_rule c z s spare ≡ Some EmptyCluster
  unfolding broken_rule
  rule_empty e = simp (eq-eqb _ _ e)

  module _ (taxon : c ≢ 0) where
    pub rule_state : is_state s ≡ false → broken_rule c z s spare ≡ Some UnknownState
    unfolding broken_rule
    rule_state e = simp (ne_eqb _ _ taxon, e)

    module _ (state : is_state s ≡ true) where
      pub rule_spare : spare ≡ true → broken_rule c z s spare ≡ Some SpareBytes
      unfolding broken_rule
      rule_spare e = simp (ne_eqb _ _ taxon, state, e)

      module _ (clear : spare ≡ false) where
        pub rule_unscored : unscored_weight z s ≡ true → broken_rule c z s spare ≡ Some UnscoredWeight
        unfolding broken_rule
        rule_unscored e = simp (ne_eqb _ _ taxon, state, clear, e)

        -- the weight's range is the last rule
        pub rule_last : unscored_weight z s ≡ false → broken_rule c z s spare ≡ cond (not (in_range z)) (Some WeightRange) None
        unfolding broken_rule
        rule_last e = simp (ne_eqb _ _ taxon, state, clear, e)

module _ (z : ℤ) (s : ℕ) where
  pub score-state : is_state s ≡ false → is_score z s ≡ false
  unfolding is_score
  score-state e = rw e refl

  module _ (state : is_state s ≡ true) where
    pub score-unscored : unscored_weight z s ≡ true → is_score z s ≡ false
    unfolding is_score
    score-unscored e = rw (state, e) refl

    pub score_last : unscored_weight z s ≡ false → is_score z s ≡ in_range z
    unfolding is_score
    score_last e = rw (state, e) refl

-- ---- weight and state as facts

module _ (z : ℤ) (s : ℕ) where
  -- unscored with a weight is ruled out exactly where the weight of an unscored cluster is zero
  weight-zero : T (not (unscored_weight z s)) → s ≡ unscored → z ≡ pos 0
  weight-zero h e = zero_of_abs z (eqb→eq (nat_abs z) 0 (T_not-not (eqb (nat_abs z) 0) (simp (eq-eqb _ _ e) at h)))

  zero-weight : (s ≡ unscored → z ≡ pos 0) → T (not (unscored_weight z s))
  zero-weight h = not_T (unscored_weight z s) (λ t.
      let p = T_and (eqb s unscored) (not (eqb (nat_abs z) 0)) t in
      neq→ (nat_abs z) 0 p.1 (ap nat_abs (h (eqb→eq s unscored p.0))))

  pub score→keeps : T (is_score z s) → KeepsScore z s
  unfolding is_score
  score→keeps h =
      let p = T_and (is_state s) _ h in
      let q = T_and (not (unscored_weight z s)) (in_range z) p.1 in
      record { has_state = p.0; no_weight = weight-zero q.0; in_range_lem = leb→le (nat_abs z) weight_max q.1 }

  pub keeps→score : KeepsScore z s → T (is_score z s)
  unfolding is_score
  keeps→score k =
      and_T (is_state s) _ k.has_state
      (and_T (not (unscored_weight z s)) (in_range z) (zero-weight k.no_weight) (le→leb (nat_abs z) weight_max k.in_range_lem))

-- ---- all the rules as facts

-- the tests of the five rules, none of which applies
none-applies : (a b c d e : Bool)
    → is_kept (cond a (Some EmptyCluster) (cond (not b) (Some UnknownState) (cond c (Some SpareBytes) (cond d (Some UnscoredWeight) (cond (not e) (Some WeightRange) None)))))
    ≡ not a && (not c && (b && (not d && e)))
none-applies true b c d e = refl
none-applies false b true d e = go b
  where
    go : (b : Bool) → is_kept (cond (not b) (Some UnknownState) (Some SpareBytes)) ≡ false
    go true = refl
    go false = refl
none-applies false false false d e = refl
none-applies false true false true e = refl
none-applies false true false false true = refl
none-applies false true false false false = refl

module _ (c : ℕ) (z : ℤ) (s : ℕ) (spare : Bool) where
  kept_is : is_kept (broken_rule c z s spare) ≡ not (eqb c 0) && (not spare && is_score z s)
  unfolding broken_rule is_score
  kept_is = none-applies (eqb c 0) (is_state s) spare (unscored_weight z s) (in_range z)

  pub kept→keeps : T (is_kept (broken_rule c z s spare)) → Keeps c z s spare
  kept→keeps h =
      let p = T_and (not (eqb c 0)) _ (rw kept_is at h) in
      let q = T_and (not spare) (is_score z s) p.1 in
      record { has_taxon_lem = neq→ c 0 p.0; no_spare = T_false spare (T_not spare q.0); score = score→keeps z s q.1 }

  pub keeps→kept : Keeps c z s spare → T (is_kept (broken_rule c z s spare))
  keeps→kept k =
      rw kept_is
      (and_T (not (eqb c 0)) _ (→neq c 0 k.has_taxon_lem)
      (and_T (not spare) (is_score z s) (rw k.no_spare tt) (keeps→score z s k.score)))

-- ---- of a row

module _ (W : Width) (r : Row) where
  pub rules→ : T (keeps_rules W r) → (r.cluster < 2 ^ W.taxa) × Keeps r.cluster r.weight r.state false
  rules→ h =
      let p = T_and (ltb r.cluster (2 ^ W.taxa)) _ h in
      (ltb→lt r.cluster (2 ^ W.taxa) p.0, kept→keeps r.cluster r.weight r.state false p.1)

  pub →rules : r.cluster < 2 ^ W.taxa → Keeps r.cluster r.weight r.state false → T (keeps_rules W r)
  →rules h k =
      and_T (ltb r.cluster (2 ^ W.taxa)) _ (lt→ltb r.cluster (2 ^ W.taxa) h)
      (keeps→kept r.cluster r.weight r.state false k)
