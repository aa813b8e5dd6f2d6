pub mod Refusals
pub mod Tables
pub mod Postfix
