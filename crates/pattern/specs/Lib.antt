pub mod Refusals
pub mod Reading
