-- A set as a number; the tie rule is the order of these numbers.
-- a set of clusters as one number, and its weight
pub mod Marks
-- the order of keys
pub mod KeyOrder
-- the tie rule as the order of marks
pub mod TieRule
-- the first heaviest of several sets
pub mod FirstHeaviest
