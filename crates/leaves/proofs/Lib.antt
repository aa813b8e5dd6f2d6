pub mod Bytes
pub mod Endings
