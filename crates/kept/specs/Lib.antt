-- What the contracts of `kept` cite. Read in this order.
-- a table as rows with their results, and back
pub mod View
-- results and rows that are all zero
pub mod Blank
-- member marks
pub mod Marks
-- the results of a fit row
pub mod Results
-- what a fit table is
pub mod Fit
-- what a fit table is, as facts
pub mod Facts
-- looking up rows
pub mod Rows
-- what private functions cite: the arrays of a table
pub mod Arrays
-- what private functions cite: one row by value, and one word of marks
pub mod Fields
