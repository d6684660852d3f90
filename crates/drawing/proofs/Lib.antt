-- In the order in which they build on each other.
-- a set of clusters that passes the test of a tree
pub mod Tested
-- what asking for a tree or a text gives, and copies into a room; for the crates above too
pub mod Laws
-- the child with a taxon, as the writer of a text looks for it
mod PartWith
-- what the writer has left to write
mod Written
-- the leaf set of a built table, and its row
pub mod LeafRow
-- its first heaviest tree, as the marks have it
pub mod LeafTree
-- what is drawn of a built table
pub mod DrawnTables
