pub mod Order
pub mod Property
pub mod Judged
