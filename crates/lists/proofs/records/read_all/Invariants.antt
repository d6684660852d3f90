-- The invariant of `lists::records::read_all`: the first records are read, all of them keep the rules (`ReadingTo`), and the others are
-- left. Assumes nothing.
use Rattle.std.proofs.Common.{◌≡◌, ◌*◌, drop}
use Rattle.std.specs.Iterator.Adapters.{enumerate_source, enumerate_count}
use Rattle.std.specs.Slice.Iter.{chunks_exact_rest, chunks_exact_size}
use Rattle.cluster.specs.Record.{record_bytes}
use Rattle.lists.proofs.Laws.Read.{ReadingTo}
use Rattle.lists.proofs.records.read_all.Given as goal

abbrev pub invariant-loop-i : goal.invariant-loop-i
invariant-loop-i l = record {
  can_next : (goal.iterator-loop-i).can_next l.i-iterator;
  is_finite : (goal.iterator-loop-i).is_finite l.i-iterator;
  size : chunks_exact_size (enumerate_source l.i-iterator) ≡ record_bytes;
  rest : chunks_exact_rest (enumerate_source l.i-iterator) ≡ drop (enumerate_count l.i-iterator * record_bytes) l.list;
  read : ReadingTo l.list l.records (enumerate_count l.i-iterator);
}
