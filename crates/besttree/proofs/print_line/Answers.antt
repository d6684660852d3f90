-- A room of `line_cap` bytes takes every line, and no more bytes are told than the room has. Assumes nothing.
use Rattle.std.proofs.Common.{◌≡◌, ℕ, ◌^◌, ◌<◌, List, [], length, replicate, arith, rules, length-take-le, refl, sym, ◌∙◌}
use Rattle.std.proofs.lemmas.List.{length-replicate}
use Rattle.answers.specs.Refusal.{Answer}
use Rattle.std.specs.Prelude.{Ok}
use Rattle.answers.specs.Outcome.{outcome_of}
use Rattle.answers.proofs.Laws.Outcome.{outcome_only, written-whole}
use Rattle.report.specs.Line.{line_cap, line_of, line_into}
use Rattle.report.proofs.Laws.Line.{line-length-le, line-put, line-told}
use Rattle.besttree.proofs.print_line.Goals as goal

-- what asking for a line with such a room is answered
line-answered : (l : List ℕ) (d : ℕ) → d < 2 ^ 32 → {a : Answer} {m : List ℕ} → outcome_of a m ≡ line_into l d (replicate line_cap 0)
    → a ≡ Ok (length (line_of l d))
line-answered l d h {a} {m} e =
    let room = replicate line_cap 0 in
    let fits = line-length-le l d h in
    let whole = written-whole [] (line_of l d) room refl (omega (arith, length-replicate {A = ℕ} line_cap 0)) in
    (outcome_only a (Ok (length (line_of l d))) m _ e (sym whole ∙ line-put l d room)).0

pub unreachable-requires : goal.unreachable-requires
unreachable-requires g c =
    let done = line-answered c.args.list.now c.args.degree (search rules) c.line.ensures in
    absurd (c.in_default.not-Ok _ done)

pub slice_bounds-room-end : goal.slice_bounds-room-end
slice_bounds-room-end g c =
    let told = line-told c.args.list.now c.args.degree (replicate line_cap 0) c.line.ensures c.in-Ok.is in
    omega (arith, told, c.line.auto.room)

pub slice_bounds-write_all-end : goal.slice_bounds-write_all-end
slice_bounds-write_all-end g c =
    let told = line-told c.args.list.now c.args.degree (replicate line_cap 0) c.line.ensures c.in-Ok.is in
    sym (length-take-le c.in-Ok.size c.line.new.room (omega (arith, told, c.line.auto.room)))
