-- Read in this order: what is sent back, and the words of the theorems; last, what the private functions cite.
pub mod Draw
pub mod Built
pub mod Gathered
