-- What the crates above build on: the rules' limits, the states of a record, rows, clusters as numbers, functions on lists, lists in order
-- and by places, and rows in arrays.
pub mod Limits
pub mod Widths
pub mod State
pub mod Row
pub mod Cluster
pub mod Lists
pub mod Orders
pub mod Column
