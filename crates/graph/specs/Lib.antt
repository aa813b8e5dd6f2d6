pub mod Moves
pub mod Runs
pub mod Observer
pub mod Flow
pub mod Edges
