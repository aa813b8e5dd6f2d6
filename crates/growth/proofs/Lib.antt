-- Laws of sets that grow.
pub mod Sets
pub mod Grew
