-- The search that the code runs meets exactly the tuples, and its sum is the row's.
-- covers: what is left of a tuple when children are taken
pub mod Covers
-- the next child holds the highest taxon left
pub mod Leads
-- the search that a program runs, case by case
pub mod Search
-- the search meets the covers from the last to the first
pub mod SearchOrder
-- the search is the sum over the tuples
pub mod SearchSum
-- the search meets exactly the tuples, each once
pub mod TuplesMet
