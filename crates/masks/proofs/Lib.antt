-- Laws of sets of states as numbers, for every width.
pub mod Members
pub mod Sets
pub mod Counts
pub mod Images
pub mod Choices
pub mod Pairs
