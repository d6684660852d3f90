-- an example
pub mod Case
-- the table of examples
pub mod Cases
-- what it is that a table ends as is told
pub mod Told
-- what it is that an example is right
pub mod Right
