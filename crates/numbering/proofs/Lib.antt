-- Laws of the numbering: its list is that of the reachable states, and its numbers move as the states do.
pub mod Index
pub mod Collect
pub mod Pigeonhole
pub mod Exact
pub mod Runs
