-- Counts with keys are a semiring, and counts that stop at a limit are their fields.
-- counts with keys are a semiring
pub mod Keys
-- the first key of several tuples, and the counts of tuples that all have a zero count
pub mod FirstKey
-- the best of several families: their number, and the largest key
pub mod BestOf
-- a row's count and the key of its first heaviest tree
pub mod Best
-- counts stopped at a limit
pub mod Capped
-- the row worked out from the fields
pub mod Worked
