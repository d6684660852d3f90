-- Read in this order: rows, what a tree is, tuples, the first heaviest tree, a built row, a row worked out again; then what theorems and
-- private functions cite: one row formula for any kind of result, counts with keys, covers.
pub mod Rows
pub mod Tree
pub mod Tuple
pub mod Heaviest
pub mod Result
pub mod Built
pub mod Beneath
pub mod Rescored
pub mod Kind
pub mod Solution
pub mod Cover
