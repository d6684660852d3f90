-- `lists::records::read_all` meets its contract: a record that keeps the rules is stored, and the first that doesn't ends the reading.
-- Assumes nothing.
use Rattle.std.proofs.Common.{◌≡◌, ◌<◌, ℕ, ◌+◌, ◌*◌, ap, sym, ◌∙◌, subst, rules, length, drop}
use Rattle.std.specs.Iterator.Adapters.{enumerate_source, enumerate_count}
use Rattle.std.specs.Slice.Iter.{chunks_exact_rest}
use Rattle.laws.specs.Limits.{narrow}
use Rattle.cluster.specs.Record.{record_bytes}
use Rattle.cluster.specs.Reading.{reading_of, read_record}
use Rattle.lists.specs.Records.{records_in, bytes_at}
use Rattle.lists.proofs.Laws.Read.{ReadingTo, stored, reading_more, reading_stopped, next_bytes, next_rest, next_within}
use Rattle.lists.proofs.records.read_all.Goals as goal
use Rattle.lists.proofs.records.read_all.Goals.{After-read_record-reading}

-- the record that this turn reads
turn : (c : goal.After-read_record-reading) → let l = c.args.list.now in
    (c.in-Some.i < records_in narrow l)
    × (reading_of c.read_record-reading.result ≡ read_record (bytes_at narrow l c.in-Some.i))
    × ReadingTo l c.loop-i.records c.in-Some.i
turn c =
    let l = c.args.list.now in
    let steps = c.in-Some.ensures.steps in
    let rest = chunks_exact_rest (enumerate_source c.loop-i.i-iterator) in
    let after = chunks_exact_rest (enumerate_source c.next.new.self) in
    let bytes = c.in-Some.bytes.now in
    let at : rest ≡ drop (c.in-Some.i * record_bytes) l = c.loop-i.invariant.rest ∙ ap (λ (i : ℕ). drop (i * record_bytes) l) (sym steps.1) in
    let long : length bytes ≡ record_bytes = steps.0.1.1 ∙ c.loop-i.invariant.size in (
      next_within l rest bytes after c.in-Some.i at steps.0.1.0 long c.requires,
      c.read_record-reading.ensures ∙ ap read_record (next_bytes l rest bytes after c.in-Some.i at steps.0.1.0 long),
      subst (ReadingTo l c.loop-i.records) (sym steps.1) c.loop-i.invariant.read,
    )

pub returns-in-Err : goal.returns-in-Err
returns-in-Err c =
    let known = turn ((goal.at.returns-in-Err c).After-read_record-reading) in
    reading_stopped c.args.list.now c.requires c.loop-i.records c.in-Some.i known.2 known.0 c.read_record-reading.result known.1
    c.in-Err.is

pub loop-i-preserved : goal.loop-i-preserved
loop-i-preserved c =
    let l = c.args.list.now in
    let steps = c.in-Some.ensures.steps in
    let known = turn ((goal.at.loop-i-preserved c).After-read_record-reading) in
    let reading = c.read_record-reading.result in
    record {
      can_next = search rules;
      is_finite = search rules;
      size = steps.0.0 ∙ c.loop-i.invariant.size;
      rest =
          next_rest l _ c.in-Some.bytes.now _ (enumerate_count c.loop-i.i-iterator) c.loop-i.invariant.rest steps.0.1.0
          (steps.0.1.1 ∙ c.loop-i.invariant.size)
          ∙ ap (λ (i : ℕ). drop (i * record_bytes) l) (sym steps.2);
      read =
          rw c.from.ensures
          (subst (ReadingTo l (stored c.loop-i.records c.in-Some.i reading.«record»)) (ap (λ (i : ℕ). i + 1) steps.1 ∙ sym steps.2)
          (reading_more l c.requires c.loop-i.records c.in-Some.i known.2 known.0 reading known.1 c.in_default.is));
    }
