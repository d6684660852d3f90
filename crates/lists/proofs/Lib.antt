-- what is true of the definitions, for the crates above
pub mod Laws
-- which lists are taken, why the others are refused, one outcome for each operation
pub mod Theorems
