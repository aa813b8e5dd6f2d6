-- Laws of the reader of texts.
pub mod Answers
pub mod Unique
