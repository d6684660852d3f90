-- `cluster::rule::broken_rule` meets its contract: at each return the tests that led there say which rule is the first. Assumes nothing.
use Rattle.std.proofs.Common.{◌≡◌, Bool, cond, not, sym, ap, ◌∙◌}
use mir.Facts.{to_z-of_z}
use Rattle.cluster.specs.declared.rule.Rule.TheVariants.{WeightRange}
use Rattle.std.specs.Prelude.{None, Some}
use Rattle.cluster.specs.Rule.{broken_rule}
use Rattle.cluster.proofs.Laws.Rule.{rule_empty, rule_state, rule_spare, rule_unscored, rule_last}
use Rattle.cluster.proofs.rule.broken_rule.Goals as goal
use Rattle.cluster.proofs.rule.broken_rule.Goals.{After-is_in_range}

pub returns-then-cluster-eq0 : goal.returns-then-cluster-eq0
returns-then-cluster-eq0 c = let a = c.args in sym (rule_empty a.cluster a.weight a.state a.spare c.if-cluster-eq0.true)

pub returns-then-not-is_state : goal.returns-then-not-is_state
returns-then-not-is_state c =
    let a = c.args in sym (rule_state a.cluster a.weight a.state a.spare c.if-cluster-eq0.false (sym c.if-not-is_state.ensures))

pub returns-then-spare : goal.returns-then-spare
returns-then-spare c =
    let a = c.args in
    sym (rule_spare a.cluster a.weight a.state a.spare c.if-cluster-eq0.false (sym c.if-not-is_state.ensures) c.if-spare.true)

pub returns-then-has_unscored_weight : goal.returns-then-has_unscored_weight
returns-then-has_unscored_weight c =
    let a = c.args in
    sym (rule_unscored a.cluster a.weight a.state a.spare c.if-cluster-eq0.false (sym c.if-not-is_state.ensures) c.if-spare.false
    (rw (to_z-of_z c.ranges.weight) at (sym c.if-has_unscored_weight.ensures)))

-- where no other rule is broken, the range decides
last : (c : goal.After-is_in_range)
    → let a = c.args in
    broken_rule a.cluster a.weight a.state a.spare ≡ cond (not c.is_in_range.result) (Some WeightRange) None
last c =
    let a = c.args in
    rule_last a.cluster a.weight a.state a.spare c.if-cluster-eq0.false (sym c.if-not-is_state.ensures) c.if-spare.false
    (rw (to_z-of_z c.ranges.weight) at (sym c.if-has_unscored_weight.ensures))
    ∙ ap (λ (b : Bool). cond (not b) (Some WeightRange) None) (rw (to_z-of_z c.ranges.weight) at (sym c.is_in_range.ensures))

pub returns-then-is_in_range : goal.returns-then-is_in_range
returns-then-is_in_range c =
    sym (last ((goal.at.returns-then-is_in_range c).After-is_in_range) ∙ ap (λ (b : Bool). cond (not b) (Some WeightRange) None) c.if-is_in_range.true)

pub returns : goal.returns
returns c = sym (last ((goal.at.returns c).After-is_in_range) ∙ ap (λ (b : Bool). cond (not b) (Some WeightRange) None) c.if-is_in_range.false)
