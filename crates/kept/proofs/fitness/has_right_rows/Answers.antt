-- `kept::fitness::has_right_rows` meets its contract: the places past the rows are empty, and the rows fit. Assumes nothing.
use Rattle.std.proofs.Common.{◌≡◌, ◌-◌, ℕ, refl, sym, ◌∙◌, arith, rules, tests}
use Rattle.std.specs.List.{list_all}
use Rattle.std.proofs.lemmas.Iterator.Search.{all_from_yields_List}
use Rattle.laws.specs.Limits.{narrow, row_cap}
use Rattle.kept.specs.View.{entry_at, clusters_in}
use Rattle.kept.specs.Blank.{is_empty}
use Rattle.kept.specs.Fit.{fit_entry}
use Rattle.laws.proofs.Downward.{from_end, YieldsList-from_end}
use Rattle.kept.proofs.Laws.Fit.{right_is}
use Rattle.kept.proofs.fitness.has_right_rows.Goals as goal
use Rattle.kept.proofs.fitness.has_right_rows.Goals.{After-all}

-- what is told of the places past the rows
empties : (c : goal.After-all) → let t = c.args.t.now in
    c.all.result ≡ list_all (λ (i : ℕ). is_empty (entry_at t i)) (from_end t.rows (row_cap - t.rows))
empties c =
    let t = c.args.t.now in
    all_from_yields_List (λ (i : ℕ). is_empty (entry_at t i)) _ _ _ c.all.ensures.ran
    (YieldsList-from_end t.rows row_cap (row_cap - t.rows) c.rev.ensures.source refl) (λ x b q k. search (rules, tests))

pub returns-then-all : goal.returns-then-all
returns-then-all c =
    let t = c.args.t.now in
    let fits = all_from_yields_List (λ (i : ℕ). fit_entry narrow (clusters_in t) (entry_at t i)) _ _ _ c.all-then-all.ensures.ran
    (YieldsList-from_end 0 t.rows t.rows c.rev-then-all.ensures.source (omega arith)) (λ x b q k. search (rules, tests)) in
    let first = empties ((goal.at.returns-then-all c).After-all) in
    fits ∙ rw (sym first, c.if-all.true) at (right_is narrow (clusters_in t) t t.rows c.requires.capped)

pub returns-else-all : goal.returns-else-all
returns-else-all c =
    let t = c.args.t.now in
    let first = empties ((goal.at.returns-else-all c).After-all) in
    c.if-all.false ∙ rw (sym first, c.if-all.false) at (right_is narrow (clusters_in t) t t.rows c.requires.capped)
