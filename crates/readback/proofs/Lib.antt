-- Laws of what is read back.
pub mod Arcs
pub mod Told
pub mod Back
