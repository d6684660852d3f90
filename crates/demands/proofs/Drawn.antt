-- Demand 2, in the order in which it builds up.
-- the list of all trees
mod Every
-- the one tree that is drawn, and what a row tells
pub mod First
-- what the rows of a built table tell
pub mod Told
-- what is drawn of it
pub mod Draws
-- its printed line: told from others by its bytes, and in words
mod LineBytes
pub mod Lines
