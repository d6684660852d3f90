-- what the functions are proved by, for the crates above too
pub mod Laws
-- what is known where something is drawn
pub mod Drawable
