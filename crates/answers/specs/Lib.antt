-- What every operation sends back.
-- what is sent back
pub mod Refusal
-- why an operation is refused, and how it ends
pub mod Reasons
pub mod Outcome
