-- What the reader of a plan answers.
pub mod Reading
