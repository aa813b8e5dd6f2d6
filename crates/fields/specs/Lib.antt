-- The definitions of the plan's bits and fields.
pub mod Bits
