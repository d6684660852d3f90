-- `kept::rows::place_of` meets its contract: the search ends at the first place that has the cluster. Assumes nothing.
use Rattle.std.proofs.Common.{rules, tests, eqb, ℕ, take, Option, ap, ◌∙◌}
use Rattle.std.specs.Option.{unwrap_or}
use Rattle.std.proofs.lemmas.Iterator.{YieldsList-from_slice}
use Rattle.std.proofs.lemmas.Iterator.Search.{position_from_yields_List}
use Rattle.kept.specs.Rows.{place_among}
use Rattle.kept.proofs.Laws.Rows.{place_among_is}
use Rattle.kept.proofs.rows.place_of.Goals as goal

pub returns : goal.returns
returns c =
    let a = c.args in
    let n = c.shown_rows-n.result in
    let found = position_from_yields_List (λ (x : ℕ). eqb x a.cluster) _ _ _ c.position.ensures.ran
    (YieldsList-from_slice (take n a.t.clusters) cc) (λ x b q k. search (rules, tests)) in
    c.unwrap_or.ensures ∙ ap (λ (r : Option ℕ). unwrap_or r n) found
    ∙ place_among_is a.t.clusters n a.cluster (search rules)
    ∙ ap (λ (k : ℕ). place_among a.t.clusters k a.cluster) c.shown_rows-n.ensures
