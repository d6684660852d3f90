-- Laws of the definitions of `specs/`, and of `is_tree`.
-- loops over a list, over any test
pub mod Scan
-- the test of a tree, part by part
pub mod TreeTest
-- the marked rows, one by one
pub mod Marked
-- their weights, added up in 64 bits
pub mod Weighed
-- the members gathered in an array
pub mod Gathered
-- which clusters the members of the leaf set's row are
pub mod Members
-- the members of marks that tell a test
pub mod Tells
-- what is drawn of a table
pub mod Draw
