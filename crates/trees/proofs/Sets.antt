-- Sets of clusters as tests, and trees and tuples as facts about them.
-- sets of clusters as tests
pub mod Families
-- what it says to be a tuple
pub mod Tuples
-- a tree as facts about a family
pub mod TreeFacts
