-- A list with one record rewritten, a table with one row rescored, and that the one is the build of the other.
-- a new score stored in a row
pub mod Scored
-- a part of a list rewritten
pub mod Rewritten
-- a list with one record rewritten
pub mod Changed
-- a list changed once and again
pub mod Changes
-- the outcomes of rescoring
pub mod Rescore
-- rescoring any table
pub mod RescoredTables
