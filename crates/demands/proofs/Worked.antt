-- A row that is worked out again stands to the rows of its table as the rules' formulas say.
-- tuples with no zero count, as keys and as sets
mod Tuples
-- a row worked out over all rows of its table
pub mod Standing
-- what then stands in it
pub mod Row
