pub mod Tables
pub mod Property
