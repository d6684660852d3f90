-- rows worked out with their tuples found by recursion
mod Quick
-- which rows differ between two tables
mod Changed
-- the test of a case, over the whole table
pub mod Computed
-- what each part of the test shows
mod Shown
-- every example is right
pub mod Theorems
