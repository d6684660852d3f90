-- What the contracts and the theorems of `table` cite, beside the definitions of `kept`. Read in this order.
-- building
pub mod Build
-- rescoring
pub mod Rescore
-- lists changed and tables rescored, one change after another: what theorems cite
pub mod Changes
-- what the private functions cite: tallies, and their sums
pub mod Tally
pub mod Sums
-- what the private functions cite: the arrays that the search reads, and what it may count on
pub mod Columns
pub mod Searched
-- columns as tables, and what the private functions cite of rows worked out
pub mod Tables
pub mod Working
