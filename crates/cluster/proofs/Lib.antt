-- what is true of the definitions, for the crates above
pub mod Laws
-- one outcome for each operation, there and back again, acceptance
pub mod Theorems
