-- One item of a pattern.
pub mod Faults
pub mod Found
