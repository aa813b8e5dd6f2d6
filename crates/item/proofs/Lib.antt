-- Laws of one item that belong to no one function.
pub mod Faults
pub mod Alphabet
