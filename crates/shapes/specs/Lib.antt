-- Read in this order: plain characters, numbers in decimal, shapes, their text, the shape and text of a set of clusters, what that rests
-- on, and how a writer meets the children of a part.
pub mod Characters
pub mod Decimal
pub mod Shape
pub mod Text
pub mod Drawn
pub mod Nests
pub mod Parts
