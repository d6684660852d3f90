-- texts in the making
pub mod Laws
