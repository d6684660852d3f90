-- the laws of the definitions in specs/
pub mod Laws
-- tallies are encodings of true results, and what sums over covers keep, so that no word overflows
pub mod Tallies
-- the code's search is the sum over the covers
pub mod Tuples
-- one row worked out, and every row that contains a cluster
pub mod Rows
-- tables worked out again are fit
pub mod Fitting
-- a list with one record rewritten, a table with one row rescored, and that the one is the build of the other
pub mod Changing
-- the theorems that answer the demands
pub mod Theorems
