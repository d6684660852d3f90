-- `gel::lines::Sheet::read` meets its contract: line 0 is at fault where its marks are none or too many, else the lines are told one by one.
-- Assumes nothing.
use Rattle.std.proofs.Common.{◌≡◌, sym, ◌∙◌, ap, ap₂, subst, ◌≤◌, ◌<◌, ◌+◌, ◌*◌, ◌/◌, ℕ, List, length, min, take, drop, arith, length-drop}
use Rattle.std.proofs.Math.Nat.{mul-div_cancel}
use Rattle.gel.specs.Form.{is_line, Formed}
use Rattle.gel.proofs.Laws.Faults.{fault_unmarked}
use Rattle.gel.proofs.Laws.Formed.{FirstWidth, LinedTo, piece_is, rest_more, lined_more, lined_full, lined_stopped, lined_ended}
use Rattle.gel.proofs.lines.Sheet.read.Goals as goal
use Rattle.gel.proofs.lines.Sheet.read.Goals.{In-Some}
use Rattle.gel.proofs.lines.Sheet.read.Goals.{then-width-eq0-via-then-width-eq0}
use Rattle.gel.proofs.lines.Sheet.read.Goals.{then-width-eq0-via-else-width-eq0+then-width-gt-MOST_COLUMNS}
use Rattle.gel.proofs.lines.Sheet.read.Goals.{then-i-eq-MOST_LINES-via-then-i-eq-MOST_LINES}
use Rattle.gel.proofs.lines.Sheet.read.Goals.{then-i-eq-MOST_LINES-via-else-i-eq-MOST_LINES+then-not-is_line}

pub returns-then-width-eq0 : goal.returns-then-width-eq0
returns-then-width-eq0 c = fault_unmarked c.args.bytes.now (λ h k. elim c.then-width-eq0.branch [
  | then-width-eq0-via-then-width-eq0 w ↦ omega (arith, h, k)
  | then-width-eq0-via-else-width-eq0+then-width-gt-MOST_COLUMNS w ↦ omega (arith, h, k)
])

-- ---- a turn

head : (c : In-Some) → FirstWidth c.args.bytes.now c.first_width-width.result
head c = record { first = c.first_width-width.ensures; some = omega arith; most = omega arith }

lined : (c : In-Some) → LinedTo c.args.bytes.now c.first_width-width.result c.in-Some.i
lined c = let told = c.in-Some.ensures.steps in subst (LinedTo c.args.bytes.now c.first_width-width.result) (sym told.1) c.loop-i.invariant.lined

left : (c : In-Some)
    → drop (c.in-Some.i * (c.first_width-width.result + 1)) c.args.bytes.now ≡ c.loop-i.i-iterator.iter.rest.now
left c =
    let told = c.in-Some.ensures.steps in
    ap (λ (n : ℕ). drop (n * (c.first_width-width.result + 1)) c.args.bytes.now) told.1 ∙ sym c.loop-i.invariant.rest

more : (c : In-Some) → c.in-Some.i * (c.first_width-width.result + 1) < length c.args.bytes.now
more c =
    let told = c.in-Some.ensures.steps in
    omega (arith, told.0.1.2, ap length (left c), length-drop (c.in-Some.i * (c.first_width-width.result + 1)) c.args.bytes.now)

-- the line is the front of what is left
piece : (c : In-Some)
    → c.in-Some.line.now
    ≡ take (c.first_width-width.result + 1) (drop (c.in-Some.i * (c.first_width-width.result + 1)) c.args.bytes.now)
piece c =
    let told = c.in-Some.ensures.steps in
    piece_is _ _ _ _ (left c ∙ told.0.1.0) (told.0.1.1 ∙ ap₂ min c.loop-i.invariant.size (ap length (sym (left c))))

pub returns-then-i-eq-MOST_LINES : goal.returns-then-i-eq-MOST_LINES
returns-then-i-eq-MOST_LINES c =
    let t = (goal.at.returns-then-i-eq-MOST_LINES c).In-Some in
    elim c.then-i-eq-MOST_LINES.branch [
      | then-i-eq-MOST_LINES-via-then-i-eq-MOST_LINES w ↦
          lined_full _ _ _ (lined t) (head t) (more t) w.if-i-eq-MOST_LINES.true
      | then-i-eq-MOST_LINES-via-else-i-eq-MOST_LINES+then-not-is_line w ↦
          lined_stopped _ _ _ (lined t) (head t) (more t)
          (ap (λ (x : List ℕ). is_line x c.first_width-width.result) (sym (piece t)) ∙ sym w.is_line.ensures ∙ w.if-not-is_line.true)
    ]

pub loop-i-preserved : goal.loop-i-preserved
loop-i-preserved c =
    let t = (goal.at.loop-i-preserved c).In-Some in
    let told = c.in-Some.ensures.steps in
    let next : c.in-Some.i + 1 ≡ c.next.new.self.count = omega (arith, told.1, told.2) in
    let whole = sym c.is_line.ensures ∙ c.if-not-is_line.false in
    record {
      size = told.0.0 ∙ c.loop-i.invariant.size;
      rest = rest_more _ _ _ (lined t) _ _ (left t ∙ told.0.1.0) whole
          ∙ ap (λ (n : ℕ). drop (n * (c.first_width-width.result + 1)) c.args.bytes.now) next;
      lined = subst (LinedTo c.args.bytes.now c.first_width-width.result) next
          (lined_more _ _ _ (lined t) c.if-i-eq-MOST_LINES.false
          (ap (λ (x : List ℕ). is_line x c.first_width-width.result) (sym (piece t)) ∙ whole));
    }

pub invariant_of-result : goal.invariant_of-result
invariant_of-result c =
    let told = c.in-None.ensures.steps in
    let n = c.loop-i.i-iterator.count in
    let w = c.first_width-width.result in
    let done : length c.args.bytes.now ≤ n * (w + 1) =
    omega (arith, told.0.1.0, ap length c.loop-i.invariant.rest, length-drop (n * (w + 1)) c.args.bytes.now) in
    let formed = lined_ended _ _ _ c.loop-i.invariant.lined
    (record { first = c.first_width-width.ensures; some = omega arith; most = omega arith }) done in
    let count : n ≡ length c.args.bytes.now / (w + 1) =
    sym (mul-div_cancel n (omega arith)) ∙ ap (λ (m : ℕ). m / (w + 1)) (sym formed.long) in
    record { formed = subst (λ (m : ℕ). Formed c.args.bytes.now m w) count formed }
