-- Laws of the final set, the verdict, the fill and the row.
pub mod Final
pub mod Verified
pub mod Rounded
pub mod Copies
pub mod Cases
