-- `lists::listing::arranged` meets its contract: each turn stores the row that the order has next, and at the end there are all.
-- Assumes nothing.
use Rattle.std.proofs.Common.{◌≡◌, ℕ, ap, ◌∙◌, slice_index_or, length, arith, rules, w32}
use mir.Facts.{to_z-of_z}
use mir.Val.{SFits}
use lib.IntN.{pos}
use Rattle.laws.proofs.Down.{down_length}
use Rattle.std.specs.Prelude.{Ok}
use Rattle.lists.specs.declared.listing.Listing.{Listing}
use Rattle.lists.specs.Listing.{listing_of}
use Rattle.lists.specs.Read.{row_from}
use Rattle.lists.specs.Order.{through}
use Rattle.lists.proofs.Laws.Arranged.{arranged_to, arranged_next, arranged_ended}
use Rattle.lists.proofs.listing.arranged.Goals as goal

pub loop-i-preserved : goal.loop-i-preserved
loop-i-preserved c =
    let row = row_from c.args.records.now in
    let o = c.args.places.now in
    let read = row c.from-at.result in
    let weight_fits : SFits w32 (slice_index_or c.args.records.now.weights c.from-at.result (pos 0)) = search rules in
    arranged_next (length o) row o c.loop-i.listing c.loop-i.i _ c.loop-i-test.true c.requires.room c.loop-i.invariant
    ((λ k. record { cluster = read.cluster; weight = to_z-of_z weight_fits k; state = read.state }) ∙ ap row c.from-at.ensures)

pub returns : goal.returns
returns c =
    let rows = through (row_from c.args.records.now) c.args.places.now in
    let n = length c.args.places.now in
    let ended : c.loop-i.i ≡ n = omega arith in
    ap (λ (r : Listing). listing_of (Ok r)) (c.loop-i.invariant ∙ ap (λ (i : ℕ). arranged_to n (rows i)) ended)
    ∙ arranged_ended n (rows n) (down_length _ n)
