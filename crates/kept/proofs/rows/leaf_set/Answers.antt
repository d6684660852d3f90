-- `kept::rows::leaf_set` meets its contract: the chain joins the scored clusters of the rows that are looked at. Assumes nothing.
use Rattle.std.proofs.Common.{ℕ, bit_or, take, rules, tests, ◌∙◌}
use Rattle.std.proofs.lemmas.Iterator.{YieldsList-from_slice, YieldsList-from_zip}
use Rattle.std.proofs.lemmas.Iterator.Consumers.{YieldsList-at, YieldsList-from_filter, fold_from_yields_List}
use Rattle.laws.specs.State.{scored}
use Rattle.kept.proofs.Laws.Rows.{leaf_set_is}
use Rattle.kept.proofs.rows.leaf_set.Goals as goal

pub returns : goal.returns
returns c =
    let t = c.args.t in
    let n = c.shown_rows-n.result in
    fold_from_yields_List _ (λ (a : ℕ) (p : ℕ × ℕ). bit_or a p.0) 0 _ c.fold.ensures.ran
    (YieldsList-from_filter _ (λ (p : ℕ × ℕ). scored p.1)
    (YieldsList-at c.filter.ensures.source
    (YieldsList-from_zip (YieldsList-from_slice (take n t.clusters) cc) (YieldsList-from_slice (take n t.states) cc)))
    c.filter.ensures.closure (λ x b q k. search (rules, tests)))
    (λ a x b q k. search rules)
    ∙ leaf_set_is t n c.shown_rows-n.ensures (search rules) (search rules)
