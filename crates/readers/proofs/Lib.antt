-- Laws of the readers of choices, sequences and units.
pub mod Orders
pub mod Chains
