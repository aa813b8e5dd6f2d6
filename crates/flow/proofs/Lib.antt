-- Laws of the work on the sets.
pub mod Work
