-- Laws of rows and tables that belong to no one function.
pub mod Rows
