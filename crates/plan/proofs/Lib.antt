-- Laws that belong to no one function.
pub mod Tests
pub mod Nodes
pub mod Framing
pub mod Ranges
pub mod Ends
pub mod Legality
pub mod Cases
pub mod Keeps
pub mod NoJobs
