-- Tables worked out again are fit.
-- a row's own result
pub mod Rooted
-- a row worked out from fit rows is fit
pub mod KeepsFit
-- every row of a table worked out again is fit
pub mod AgainFit
-- built tables and rescored fit tables are fit
pub mod FitTables
