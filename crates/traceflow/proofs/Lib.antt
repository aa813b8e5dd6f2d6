-- Laws of what is exported.
pub mod Place
pub mod Unique
pub mod ReadBack
