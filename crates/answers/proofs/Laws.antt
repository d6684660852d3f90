-- an answer is fixed by what is sent
pub mod Refusal
-- the first reason that applies
pub mod Reasons
-- what is sent back and given fixes the answer; writing into a room
pub mod Outcome
