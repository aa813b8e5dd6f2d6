-- Laws of items that belong to no one function, and patterns from their items.
pub mod Progress
pub mod Answers
pub mod Kept
pub mod Cases
