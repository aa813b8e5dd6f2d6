pub mod Numbering
pub mod Reachable
