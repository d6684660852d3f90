-- The invariant of `lists::listing::arranged`: the listing has the first i rows of the order. Assumes nothing.
use Rattle.std.proofs.Common.{◌≡◌, length}
use Rattle.lists.specs.Read.{row_from}
use Rattle.lists.specs.Order.{through}
use Rattle.lists.proofs.Laws.Arranged.{arranged_to}
use Rattle.lists.proofs.listing.arranged.Given as goal

abbrev pub invariant-loop-i : goal.invariant-loop-i
invariant-loop-i l = l.listing ≡ arranged_to (length l.places) (through (row_from l.records) l.places l.i)
