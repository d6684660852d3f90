-- What the contract of `gel` cites. Read in this order.
-- the lines of a sheet, and the first at fault
pub mod Lines
-- its columns, and the clusters of the list
pub mod Columns
-- the same in words
pub mod Facts
-- the import: its reasons and its outcome
pub mod Import
-- what private functions cite
pub mod Form
pub mod Tally
