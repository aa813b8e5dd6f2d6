pub mod Words
pub mod Lent
pub mod Sides
