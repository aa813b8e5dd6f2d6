-- Laws of the rows of the table of moves.
pub mod Entries
pub mod Filling
