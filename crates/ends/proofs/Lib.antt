-- Laws of the tests of refusals 6, 21, and 7 to 9.
pub mod Turns
pub mod Arrays
