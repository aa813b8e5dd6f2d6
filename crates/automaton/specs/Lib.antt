pub mod Automaton
pub mod Tables
pub mod Search
