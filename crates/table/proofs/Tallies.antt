-- Tallies are encodings of true results, and what sums over covers keep, so that no word overflows.
-- the code's operations on tallies
pub mod Tally
-- a count and its mark
pub mod Counts
-- the code's sums and products of tallies are those of results
pub mod Encoded
-- what counts with keys keep when they are summed
pub mod Held
-- a row as one part of a tuple
pub mod Decoded
-- sums over the covers of a cluster
pub mod CoverSums
-- one more child overflows no word
pub mod Overflow
