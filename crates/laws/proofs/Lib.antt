-- tests: conjunction, disjunction, equal tests
pub mod Tests
-- the digits of a number decide it
pub mod Digits
-- inside and apart, taxon by taxon
pub mod Inside
-- inside, apart, union and what is left
pub mod Cluster
-- the number of taxa, one-taxon clusters, highest and lowest taxon
pub mod Taxa
-- filters and tests of lists
pub mod Keep
-- lists without repetition
pub mod Once
-- sublists
pub mod Sublists
-- the order of the integers, and sums
pub mod Integers
-- lists of numbers that fall strictly, and their sublists
pub mod Falling
-- how many elements a filter keeps
pub mod KeepCount
-- how many sublists have a given number of elements
pub mod Choose
-- the largest number of a list that passes a test
pub mod Largest
-- families of clusters that nest: how large they can be
pub mod Laminar
-- lists of clusters with the largest first
pub mod Descends
-- lists of images, lists one behind another, and a list backward
pub mod Appended
-- the lowest taxon of a cluster
pub mod Lowest
-- lists one behind another, taken apart
pub mod Split
-- signed numbers and their bits in two's complement, of any width
pub mod Signed
-- lists put in order
pub mod Sort
-- what stands in ascending places, the largest first
pub mod Down
-- how many of ascending numbers are below another
pub mod Below
-- the numbers of a range from its end down
pub mod Downward
-- a number put into a list, those above it moved up
pub mod MovedUp
-- lists by their places
pub mod Places
-- the first place that passes a test
pub mod First
-- the states of a record
pub mod State
-- one field of rows in an array
pub mod Column
-- what is asked of a width holds of the rules' own
pub mod Width
-- one outcome where a promise is an equation to a value
pub mod Only
-- what a chain of iterators answers, in the words for lists
pub mod Chains
