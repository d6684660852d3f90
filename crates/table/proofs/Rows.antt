-- One row worked out, and every row that contains a cluster.
-- marks as numbers
pub mod Marked
-- the results of one row stored
pub mod Stored
-- a row by itself, field by field
pub mod Working
-- what the search may count on, and a row over what it finds
pub mod Ready
-- the row that the code works out is that of the rules
pub mod WorkedRow
-- the rows of a table that may be worked out, and those that are
pub mod Workable
-- the loop over the rows, one turn and the whole
pub mod AgainRow
pub mod AgainLoop
-- its mark
pub mod WorkedMark
