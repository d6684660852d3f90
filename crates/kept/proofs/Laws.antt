-- Laws of the definitions of `specs/`.
-- results and rows that are all zero
pub mod Blank
-- a table as rows with their results, and back
pub mod View
-- member marks
pub mod Marks
-- the clusters of the first rows, and their marks by row number
pub mod Clusters
-- one word of marks, and two
pub mod Words
-- the results of a fit row as facts
pub mod Results
-- a fit row and a fit table as facts
pub mod Fit
-- looking up rows
pub mod Rows
