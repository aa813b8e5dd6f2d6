-- Laws of the line.
pub mod Numbers
pub mod Cases
