-- Laws of the judge of typed patterns.
pub mod Postfix
pub mod Reader
