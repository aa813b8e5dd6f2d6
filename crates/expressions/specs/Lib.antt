pub mod Expression
pub mod Items
pub mod Positions
pub mod Stack
