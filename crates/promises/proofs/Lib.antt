-- Laws of what the judges promise.
pub mod Named
pub mod Refusals
pub mod Sound
pub mod Row
pub mod Unique
pub mod TextUnique
pub mod SameItems
pub mod Numbers
pub mod Evaluate
pub mod Narrower
pub mod NoJobs
pub mod Standing
pub mod Cases
