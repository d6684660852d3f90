-- `table::searching::starts_of` meets its contract: one more taxon is told. Assumes nothing.
use Rattle.std.proofs.Common.{ℕ, ◌*◌, ◌%◌, ◌^◌, rules}
use Rattle.std.proofs.lemmas.List.Sorted.{IsPartitionPoint-from_clause}
use lib.Dec.{ltb}
use Rattle.table.proofs.Tuples.Searched.{others_parted, below_of_point, begun_asks, begun_more}
use Rattle.table.proofs.searching.starts_of.Goals as goal

pub loop-taxon-preserved : goal.loop-taxon-preserved
loop-taxon-preserved c =
    let begun = c.loop-taxon.invariant in
    let up = c.requires.rising in
    let past = begun_asks begun c.loop-taxon-test.true in
    let point = c.partition_point-past.ensures in
    begun_more begun c.loop-taxon-test.true (
    below_of_point up past point.bound (
    IsPartitionPoint-from_clause (λ (y : ℕ). ltb y ((1 * 2 ^ c.loop-taxon.taxon) % 2 ^ 64)) _ _ point.partitioned (others_parted up past)
    (λ a r q k. search rules)))
