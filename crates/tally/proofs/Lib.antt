-- Laws of the tally.
pub mod News
pub mod Tally
pub mod Cases
