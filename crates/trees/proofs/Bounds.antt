-- How many tuples a row can have, how large a tree is and how heavy.
-- how many tuples a row can have
pub mod TupleBound
-- how many members a tree has, and how much it can weigh
pub mod TreeSize
