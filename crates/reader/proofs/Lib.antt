-- Laws that belong to no one function.
pub mod Answered
pub mod Filling
pub mod Tables
