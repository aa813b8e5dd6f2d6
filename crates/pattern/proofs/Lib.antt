pub mod Order
pub mod Part
pub mod Cases
