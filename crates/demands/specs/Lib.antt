-- The demands: read `Demands.antt` first, and the others for its words.
pub mod Demands
-- what is sent back, and when
pub mod Sending
pub mod Refusals
-- the trees of a list, and the one that is drawn
pub mod Trees
-- a row worked out from the rows of its table
pub mod Worked
-- records without a score
pub mod Lanes
-- strict marking: each public operation with its promise
pub mod OneOutcome
