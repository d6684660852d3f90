-- Laws of the definitions of `specs/`.
-- building
pub mod Build
