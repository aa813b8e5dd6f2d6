-- What a set of states is, as a number.
pub mod Mask
pub mod Members
