pub mod Sums
pub mod Turns
pub mod Lengths
pub mod Sizes
pub mod Counted
pub mod Kept
pub mod Cases
