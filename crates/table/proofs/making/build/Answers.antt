-- `table::making::build` meets its contract: a degree bound that isn't taken, a list that is refused, and else its rows worked out.
-- Assumes nothing.
use Rattle.std.proofs.Common.{rules, arith, ◌≡◌, ℕ, true, false, refl, sym, ap, ◌∙◌, nat_cmp, is_le}
use Rattle.std.proofs.lemmas.Grind.{common_steps}
use lib.Dec.{T, leb}
use Rattle.std.specs.Prelude.{Ok}
use Rattle.answers.specs.Outcome.{outcome_of}
use Rattle.laws.specs.Limits.{narrow, is_degree}
use Rattle.laws.proofs.Tests.{true_T}
use Rattle.laws.proofs.Width.{narrow_facts}
use Rattle.lists.specs.Accepted.{Bytes}
use Rattle.lists.specs.Listing.{listing_of}
use Rattle.table.proofs.Laws.Build.{build_out, build-refused, build_workable, build_done}
use Rattle.table.proofs.making.build.Goals as goal
use Rattle.table.proofs.making.build.Goals.{After-contains, After-read_list}

-- the test of the degree bound, as the code has it
le_is : (a b : ℕ) → is_le (nat_cmp a b) ≡ leb a b
le_is a b = grind (arith, common_steps)

tested : (c : goal.After-contains) → c.contains.result ≡ is_degree c.args.degree
tested c = rw (c.new.ensures.start, c.new.ensures.end, c.new.ensures.exhausted, le_is, le_is) at c.contains.ensures.value

-- past it, the degree bound is taken
degree : (c : goal.After-contains) → c.contains.result ≡ true → T (is_degree c.args.degree)
degree c e = true_T (sym (tested c) ∙ e)

-- what is read of a slice of bytes is bytes
bytes : (c : goal.After-read_list) → Bytes c.args.list.now
bytes c i = search rules

pub returns-then-not-contains : goal.returns-then-not-contains
returns-then-not-contains c =
    let out : is_degree c.args.degree ≡ false = sym (tested ((goal.at.returns-then-not-contains c).After-contains)) ∙ c.if-not-contains.true in
    c.refused.ensures ∙ build_out narrow c.args.list.now c.args.degree out

-- ---- the list is read, and what came of it is known

pub returns-in-Err : goal.returns-in-Err
returns-in-Err c =
    let read = ap listing_of (sym c.in-Err.is) ∙ c.read_list.ensures in
    c.refused-in-Err.ensures
    ∙ build-refused narrow c.args.list.now c.args.degree (degree ((goal.at.returns-in-Err c).After-contains) c.if-not-contains.false) read refl

pub again-requires : goal.again-requires
again-requires c =
    let read = ap listing_of (sym c.in-Ok.is) ∙ c.read_list.ensures in
    rw c.zero_table.ensures
    (build_workable narrow c.args.list.now c.args.degree (degree ((goal.at.again-requires c).After-contains) c.if-not-contains.false) read
    narrow_facts (bytes ((goal.at.again-requires c).After-read_list)) refl)

pub returns : goal.returns
returns c =
    let read = ap listing_of (sym c.in-Ok.is) ∙ c.read_list.ensures in
    ap (outcome_of (Ok 0)) (rw c.zero_table.ensures at c.again.ensures)
    ∙ build_done narrow c.args.list.now c.args.degree (degree ((goal.at.returns c).After-contains) c.if-not-contains.false) read narrow_facts
    (bytes ((goal.at.returns c).After-read_list)) refl
