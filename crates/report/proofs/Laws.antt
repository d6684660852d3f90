-- In the order in which they build on each other.
-- the words of a line, and how long it can be
pub mod Words
-- the line of a table and of a list
pub mod Line
-- what is said of a gel sheet
pub mod Sheet
