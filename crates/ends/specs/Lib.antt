-- What the tests of refusals 6, 21, and 7 to 9 go by.
pub mod Faults
