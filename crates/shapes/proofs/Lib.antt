-- In the order in which they build on each other.
-- lists in ascending order of a key
pub mod Sorted
-- numbers in decimal
pub mod Decimal
-- a text tells its shape
pub mod Print
-- clusters that nest, with their single taxa: the children of a member
pub mod Nests
-- the children of a part in order, and how a writer meets them
pub mod Parts
-- the shape of a member has the members inside it for clusters
pub mod Drawn
-- the clusters of a shape, whatever the shape
pub mod Shape
-- an ordered shape is decided by its clusters
pub mod Only
-- the bytes of a part, from those of its children
pub mod PartBytes
-- how long a text can be
pub mod TextLength
-- the theorems about trees
pub mod Theorems
-- a list of clusters backward
pub mod Backward
-- the texts of the rules' own examples
pub mod Cases
