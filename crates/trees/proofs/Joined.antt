-- The trees of a tuple's children, joined, are the trees of the row, each once.
-- the trees of the children of a tuple, joined
pub mod Cuts
-- the rows beneath a row, and a tuple of them
pub mod Beneath
-- a one-taxon cluster has one tree
pub mod SingleTree
-- the tree that a tuple and a cut make
pub mod JoinTree
-- every tree has its tuple
pub mod TreeTuple
-- the trees of a row
pub mod RowTrees
-- a table of lists of trees
pub mod TableTrees
-- the definition's test of a tree, and the facts
pub mod TreeTest
