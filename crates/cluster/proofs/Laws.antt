-- numbers as bytes and back, over any number of bytes
pub mod Bytes
-- the record rules, one by one and as facts
pub mod Rule
-- a record and its bytes, there and back
pub mod Record
-- reading by cases
pub mod Reading
-- writing by cases
pub mod Writing
