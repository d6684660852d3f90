-- The code's search is the sum over the covers.
-- rows in ascending order
pub mod Searched
-- rows that may be read, and looking one up
pub mod Readable
-- what a search may count on
pub mod Searchable
-- what one row adds to the search
pub mod SearchRow
-- the loop of the search, turn by turn
pub mod Running
