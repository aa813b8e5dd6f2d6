pub mod Family
pub mod Entered
