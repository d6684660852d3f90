-- `members::draw::drawn_tree` meets its contract: the refusals, in the definition's order. Assumes nothing.
use Rattle.std.proofs.Common.{◌≡◌, ◌≤◌, ℕ, true, false, sym, ap, ◌∙◌, arith}
use Rattle.laws.specs.Limits.{narrow, row_cap}
use Rattle.laws.proofs.Tests.{true_T}
use Rattle.laws.proofs.Width.{narrow_facts}
use Rattle.kept.specs.declared.table.Table.{Table}
use Rattle.kept.specs.Fit.{is_fit}
use Rattle.kept.specs.Rows.{leaf_set, place_of}
use Rattle.kept.proofs.Laws.Fit.{is_fit→}
use Rattle.members.specs.Draw.{leaf_row, has_tree}
use Rattle.members.proofs.Laws.Draw.{has_tree_no_row, has_tree_no_count, has_tree-count, drawn_unfit, drawn_no_tree}
use Rattle.members.proofs.draw.drawn_tree.Goals as goal
use Rattle.members.proofs.draw.drawn_tree.Goals.{then-t-row-via-then-t-row, then-t-row-via-else-t-row+then-t-row-eq0}

-- a fit table has room for its rows, and the row that is looked up is the leaf set's
capped : (t : Table) → true ≡ is_fit narrow t → t.rows ≤ row_cap
capped t e = (is_fit→ narrow narrow_facts t (true_T (sym e))).bounds.capped

looked : (t : Table) {top row : ℕ} → top ≡ leaf_set t → row ≡ place_of t top → row ≡ leaf_row t
looked t p q = q ∙ ap (place_of t) p

pub returns-then-not-is_fit : goal.returns-then-not-is_fit
returns-then-not-is_fit c = sym (drawn_unfit narrow c.args.t (sym c.if-not-is_fit.ensures))

pub returns-then-t-row : goal.returns-then-t-row
returns-then-t-row c =
    let row = looked c.args.t c.leaf_set-top.ensures c.place_of-row.ensures in
    let none : has_tree c.args.t ≡ false =
    elim c.then-t-row.branch [
      | then-t-row-via-then-t-row w ↦ has_tree_no_row c.args.t c.place_of-row.result row w.if-t-row.true
      | then-t-row-via-else-t-row+then-t-row-eq0 w ↦ has_tree_no_count c.args.t c.place_of-row.result row w.if-t-row-eq0.true
    ] in
    sym (drawn_no_tree narrow c.args.t (sym c.if-not-is_fit.ensures) none)

pub offset_bounds-t-row : goal.offset_bounds-t-row
offset_bounds-t-row c = omega (arith, capped c.args.t c.if-not-is_fit.ensures)

pub bounds-t-row : goal.bounds-t-row
bounds-t-row c = omega (arith, capped c.args.t c.if-not-is_fit.ensures)

pub drawn_members-requires : goal.drawn_members-requires
drawn_members-requires c =
    let row = looked c.args.t c.leaf_set-top.ensures c.place_of-row.ensures in record {
      fit = sym c.if-not-is_fit.ensures;
      capped = capped c.args.t c.if-not-is_fit.ensures;
      place = c.if-t-row.false;
      top = c.leaf_set-top.ensures;
      row = row;
      tree = has_tree-count c.args.t c.place_of-row.result row c.if-t-row.false c.if-t-row-eq0.false;
    }
