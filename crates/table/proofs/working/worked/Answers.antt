-- `table::working::worked` meets its contract: the search may count on the rows beneath, and nothing overflows where the row goes over what
-- it finds. Assumes nothing.
use Rattle.std.proofs.Common.{pos, get_or, rules}
use Rattle.std.specs.Int.{w32}
use mir.Facts.{to_z-of_z}
use mir.Val.{SFits}
use Rattle.table.proofs.Rows.Ready.{searchable, under_fits}
use Rattle.table.proofs.working.worked.Goals as goal

pub search-found-requires-clause-searchable : goal.search-found-requires-clause-searchable
search-found-requires-clause-searchable c = searchable c.requires

pub under-requires : goal.under-requires
under-requires c =
    let weight : SFits w32 (get_or c.args.t.now.weights c.args.i (pos 0)) = search rules in
    let fits = under_fits c.requires (rw (to_z-of_z weight) at c.own-2.ensures) c.search-found.ensures in
    record { sfits = fits.0; low_bound = fits.1.0; high_bound = fits.1.1 }
