-- Laws of arcs as words, and of a plan that is lent.
pub mod Words
pub mod Places
