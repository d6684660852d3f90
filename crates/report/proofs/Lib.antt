-- what is true of the definitions, for the crates above
pub mod Laws
