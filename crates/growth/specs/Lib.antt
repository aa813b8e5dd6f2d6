pub mod Table
pub mod Grew
