-- A running tally of pairs.
pub mod Tally
