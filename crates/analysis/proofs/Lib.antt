-- Laws of the analysis of a plan that was read.
pub mod Lending
pub mod Parts
pub mod Settled
pub mod Read
