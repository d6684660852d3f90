-- a list copied into a room
pub mod Copied
-- what asking for a tree or a text gives
pub mod Draw
