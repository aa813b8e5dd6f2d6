-- The tables of texts: their readings, their items, and plans that are judged by them.
pub mod Readings
pub mod Items
pub mod Plans
pub mod Own
