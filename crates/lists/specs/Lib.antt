-- What the contracts of `lists` cite, and what the crates above cite in theirs. Read in this order.
-- rows put in order
pub mod Rows
-- the records of a list
pub mod Records
-- records put one after the other, and a list with its unscored records left out
pub mod ListFrom
-- reading a list: its reasons and its outcome
pub mod Listing
-- which lists are taken, in words, and lists that are written
pub mod Accepted
-- what private functions cite: records read by their positions, and their order
pub mod Read
pub mod Order
