-- `lists::listing::read_list` meets its contract: each return is one case of reading. Assumes nothing.
use Rattle.std.proofs.Common.{◌≡◌, List, ap, sym, ◌∙◌, arith}
use Rattle.std.proofs.lemmas.Result.{err_from_is_err_and}
use Rattle.std.proofs.lemmas.Bool.Decides.{nat_tests}
use Rattle.laws.specs.Limits.{narrow}
use Rattle.laws.specs.Row.{Row}
use Rattle.std.specs.Prelude.{Ok}
use Rattle.answers.specs.Outcome.{outcome_of}
use Rattle.lists.specs.Records.{records_in}
use Rattle.lists.specs.Listing.{listed, record_reasons, list_ended, read_list}
use Rattle.lists.specs.Read.{row_from}
use Rattle.lists.proofs.Laws.Arranged.{through-take}
use Rattle.lists.proofs.Laws.Listing.{read-empty, read-long, read_cut, read_whole, whole_bad, whole_repeated, whole_done}
use Rattle.lists.proofs.listing.read_list.Goals as goal
use Rattle.lists.proofs.listing.read_list.Goals.{Else-list-ne0}

pub returns-then-is_empty : goal.returns-then-is_empty
returns-then-is_empty c = sym (read-empty narrow c.args.list.now (grind (arith, nat_tests)))

pub returns-then-list-gt-LIST_BYTES : goal.returns-then-list-gt-LIST_BYTES
returns-then-list-gt-LIST_BYTES c = sym (read-long narrow c.args.list.now (λ e. grind (arith, nat_tests)) (omega arith))

pub returns-then-list-ne0 : goal.returns-then-list-ne0
returns-then-list-ne0 c =
    sym (read_cut narrow c.args.list.now (λ e. grind (arith, nat_tests)) c.if-list-gt-LIST_BYTES.false c.if-list-ne0.true)

-- past the tests of its length, the list ends by the reasons of its records
ended : (c : goal.Else-list-ne0) → let l = c.args.list.now in
    read_list narrow l ≡ list_ended narrow l (record_reasons narrow l)
ended c = read_whole narrow c.args.list.now (λ e. grind (arith, nat_tests)) c.if-list-gt-LIST_BYTES.false c.if-list-ne0.false

pub returns-in_err-records : goal.returns-in_err-records
returns-in_err-records c =
    let p = err_from_is_err_and c.from_residual.result c.from_residual.ensures.1 in
    rw (p.1, p.2)
    (sym (ended ((goal.at.returns-in_err-records c).Else-list-ne0) ∙ whole_bad c.args.list.now c.in_err-records.ensures))

pub returns-in_err-places : goal.returns-in_err-places
returns-in_err-places c =
    let p = err_from_is_err_and c.from_residual-in_err-places.result c.from_residual-in_err-places.ensures.1 in
    rw (p.1, p.2)
    (sym
    (ended ((goal.at.returns-in_err-places c).Else-list-ne0)
    ∙ whole_repeated c.args.list.now c.in_ok-records.ensures c.in_err-places.ensures))

pub returns : goal.returns
returns c =
    let l = c.args.list.now in
    let n = records_in narrow l in
    let order = c.in_ok-places.ensures in
    let cut = through-take (row_from c.in_ok-records.records) c.in_ok-places.places n (omega (arith, order.long)) in
    whole_done l c.in_ok-records.ensures order
    (c.arranged.ensures ∙ ap (λ (rs : List Row). outcome_of (Ok 0) (listed rs)) cut)
    ∙ sym (ended ((goal.at.returns c).Else-list-ne0))
