-- Laws of the numbered automaton, and its cases.
pub mod Moves
pub mod Watched
pub mod Growth
pub mod Turns
pub mod Accepting
pub mod Language
