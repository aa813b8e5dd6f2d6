-- Laws of drafts that belong to no one function.
pub mod Arrays
pub mod Gains
pub mod Items
pub mod Whole
