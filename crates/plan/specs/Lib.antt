-- When a plan is turned down before its pattern, and what an accepted plan is.
pub mod Checks
pub mod Nodes
pub mod Refusals
pub mod Bounds
pub mod Legal
