-- what is true of the definitions, for the crates above
pub mod Laws
-- which sheets are taken, and why the others are refused
pub mod Theorems
-- the list that is made of a sheet
pub mod MadeLists
