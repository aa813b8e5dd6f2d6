-- The numbers of refusals.
pub mod Numbers
