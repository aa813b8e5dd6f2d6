-- Laws of the sets of the flow rules.
pub mod Bounds
pub mod Exact
pub mod Evaluate
pub mod Cases
