-- The table of the positions of a pattern, and what the code makes of one item.
pub mod Tables
pub mod Making
