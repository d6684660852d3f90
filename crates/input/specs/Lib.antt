-- What the contracts of `input` cite.
-- bytes that count at the start of a room
pub mod Counts
