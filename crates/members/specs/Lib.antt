-- Read in this order: the marked rows of a table, what is drawn of it, and what is known then; last, what the private functions cite.
pub mod Marked
pub mod Draw
pub mod Drawable
pub mod Gathered
