-- Laws of tables that belong to no one function.
pub mod Kept
