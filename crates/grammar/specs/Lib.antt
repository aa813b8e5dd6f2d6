pub mod Grammar
pub mod Meaning
pub mod Ways
