-- rows given by their positions, put in order
pub mod Rows
-- bytes stay bytes
pub mod Bytes
-- what the tests of a record say, and the rows of a list
pub mod Records
-- what each reason for refusing a list says
pub mod Reasons
-- reading by cases
pub mod Listing
-- the records of a list as their bytes
pub mod RecordBytes
-- records put one after the other
pub mod ListFrom
-- a list with its unscored records left out
pub mod Without
-- rows written one after the other
pub mod Written
-- records read, one after another
pub mod Read
-- one record put in its place
pub mod Placed
-- how many have smaller clusters
pub mod PlaceFor
-- all records in order
pub mod Ordered
-- rows in arrays
pub mod Arranged
