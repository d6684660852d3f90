-- In the order in which they build on each other.
-- sets of clusters as tests, and trees and tuples as facts about them
pub mod Sets
-- one row formula for any kind of result, and the rows that it works on
pub mod Formula
-- the trees of a tuple's children, joined, are the trees of the row, each once
pub mod Joined
-- a set as a number; the tie rule is the order of these numbers
pub mod Ties
-- counts with keys are a semiring, and counts that stop at a limit are their fields
pub mod Counting
-- the search that the code runs meets exactly the tuples, and its sum is the row's
pub mod Searching
-- how many tuples a row can have, how large a tree is and how heavy
pub mod Bounds
-- the row worked out from tuples is the row defined by trees
pub mod Built
-- rescoring a built table is the build of the changed rows
pub mod Rescore
-- rows worked out again stand over all rows of the table
pub mod Standing
-- the theorems that answer the demands
pub mod Theorems
