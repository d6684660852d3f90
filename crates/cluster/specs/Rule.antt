-- The record rules (RULES 2), in the order in which they are told, of a cluster, a weight and a state as numbers. Laws:
-- `proofs/Laws/Rule.antt`.
--     in_range z              a weight is -1,000,000 to 1,000,000
--     unscored_weight z s     the state is unscored and the weight isn't zero
--     broken_rule c z s spare the rule that they break first, if they break one, a spare byte beside them being set or not
--     is_kept o               no rule is broken
--     is_score z s            weight and state keep the rules, whatever the cluster
--     keeps_rules W r         a row keeps them, and its cluster is within the width
--     Keeps c z s spare, KeepsScore z s     the rules as facts, a field for each sentence
-- Assumes nothing.
use Rattle.std.specs.Prelude.{◌≡◌, ◌≢◌, Option, None, Some, Bool, true, false, not, ◌&&◌, cond, ℕ, ◌^◌, ◌≤◌, T, eqb, ltb, ℤ, pos, nat_abs}
use Rattle.laws.specs.Limits.{Width, weight_max, is_within}
use Rattle.laws.specs.State.{unscored, is_state}
use Rattle.laws.specs.Row.{Row}
use Rattle.cluster.specs.declared.rule.Rule.{Rule}
use Rattle.cluster.specs.declared.rule.Rule.TheVariants.{EmptyCluster, UnknownState, SpareBytes, UnscoredWeight, WeightRange}

abbrev pub in_range : ℤ → Bool
in_range = is_within weight_max

abbrev pub unscored_weight : ℤ → ℕ → Bool
unscored_weight z s = eqb s unscored && not (eqb (nat_abs z) 0)

-- empty cluster, state, spare bytes, unscored with a weight, weight out of range: the first that applies
unfoldable pub broken_rule : ℕ → ℤ → ℕ → Bool → Option Rule
broken_rule c z s spare =
    cond (eqb c 0) (Some EmptyCluster)
    (cond (not (is_state s)) (Some UnknownState)
    (cond spare (Some SpareBytes)
    (cond (unscored_weight z s) (Some UnscoredWeight)
    (cond (not (in_range z)) (Some WeightRange)
    None))))

abbrev pub is_kept : Option Rule → Bool
is_kept None = true
is_kept (Some u) = false

unfoldable pub is_score : ℤ → ℕ → Bool
is_score z s = is_state s && (not (unscored_weight z s) && in_range z)

abbrev pub keeps_rules : Width → Row → Bool
keeps_rules W r = ltb r.cluster (2 ^ W.taxa) && is_kept (broken_rule r.cluster r.weight r.state false)

-- ---- as facts
pub record KeepsScore (z : ℤ) (s : ℕ) : Type 0 where
  -- state 1 is scored, state 0 is unscored
  pub has_state : T (is_state s)
  -- the weight of an unscored cluster is zero
  pub no_weight : s ≡ unscored → z ≡ pos 0
  -- the weight is -1,000,000 to 1,000,000
  pub in_range_lem : nat_abs z ≤ weight_max

pub record Keeps (c : ℕ) (z : ℤ) (s : ℕ) (spare : Bool) : Type 0 where
  -- a cluster is never zero
  pub has_taxon_lem : c ≢ 0
  -- the spare bytes are zero
  pub no_spare : spare ≡ false
  pub score : KeepsScore z s
