pub mod Verdict
pub mod Answer
pub mod Row
pub mod Told
