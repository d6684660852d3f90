-- What the contracts of `cluster` cite, and what the crates above cite in theirs.
-- numbers as bytes
pub mod Bytes
-- a record and its bytes
pub mod Record
-- the record rules
pub mod Rule
-- reading one record
pub mod Reading
-- writing one record
pub mod Writing
