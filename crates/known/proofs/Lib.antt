-- Laws of what is known of the sets and of what is noted, and of calls and accepts that are noted.
pub mod Rules
pub mod Known
pub mod Pushed
pub mod Ports
