-- One row formula for any kind of result, and the rows that it works on.
-- the row formula for any kind of result
pub mod Kind
-- rows that fall, their leaf set, and the rows of a table
pub mod Rows
-- what rows without a score do to a weight
pub mod Scored
-- the row length, among all rows and among the rows beneath
pub mod RowLength
