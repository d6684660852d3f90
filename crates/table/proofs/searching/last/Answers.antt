-- `table::searching::last` meets its contract: no row is `rest`, or the row that is is unscored, or it is the one cover. Assumes nothing.
use Rattle.std.proofs.Common.{Ok, Err, sym, ◌∙◌}
use Rattle.table.proofs.Tuples.Readable.{missing_is, unscored_is, found_is}
use Rattle.table.proofs.Tuples.Searched.{placed}
use Rattle.table.proofs.searching.last.Goals as goal

pub returns-in-Ok : goal.returns-in-Ok
returns-in-Ok c =
    let r = c.requires in
    let place = placed r.readable.sound.rising r.past (Ok c.in-Ok.place) c.in-Ok.ensures.position in
    c.part.ensures ∙ found_is r.readable.sound r.rest_nonzero place.0 place.1 r.readable.words (sym c.if-is_scored.ensures)

pub returns-in_default : goal.returns-in_default
returns-in_default c =
    let r = c.requires in
    let place = placed r.readable.sound.rising r.past (Ok c.in-Ok.place) c.in-Ok.ensures.position in
    unscored_is r.readable.sound r.rest_nonzero place.0 place.1 (sym c.if-is_scored.ensures)

pub returns-in_default-2 : goal.returns-in_default-2
returns-in_default-2 c =
    let r = c.requires in
    missing_is r.readable.sound r.rest_nonzero
    (placed r.readable.sound.rising r.past (Err c.in_default.field-0) (rw c.in_default.is at c.binary_search.ensures.position))
