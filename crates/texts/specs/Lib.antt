-- Texts in the making.
pub mod Text
