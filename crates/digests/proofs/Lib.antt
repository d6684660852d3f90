-- the laws of the definitions in specs/
mod Laws
