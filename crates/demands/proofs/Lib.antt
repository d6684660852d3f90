-- In the order in which they build on each other.
-- how reasons are refusals in words, and what an operation with such reasons keeps to
mod Answered
-- the reasons of each operation are its refusals in words
mod Reasons
-- the ordered shape of a tree
mod Shapes
-- every input has its answer
pub mod Demand1
-- a row that is worked out from the rows of its table, in words
mod Worked
-- a rescored table is the fresh build
pub mod Demand3
-- what the rows of a built table tell, what is drawn of it, and its printed line
mod Drawn
-- the trees of a list are counted, and the first heaviest is drawn
pub mod Demand2
-- the lists that are made of gel sheets
pub mod Sheets
-- rescoring tables that no build made
pub mod Reworks
-- records without a score: they change no answer
pub mod Lanes
-- of each public operation, two outcomes that its promise allows are equal
pub mod OneOutcome
-- all of them
pub mod Theorems
