-- Blank lanes, records without a score: in the order in which the files build on each other.
-- what the leaf set's row tells, and results that tell the same
mod Tells
-- two lists with the same scored records
mod Same
-- and their printed lines
mod Printed
-- the leaf set where none is scored, and after a rescoring
mod Rescored
-- all that is said of them
pub mod Blank
