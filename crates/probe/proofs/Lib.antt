-- the needs of a function that one search answers
mod Answers
-- a count of bytes at the start of a room that was lent and came back
mod Counted
