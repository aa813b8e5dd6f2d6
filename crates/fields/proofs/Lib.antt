-- Laws of bits, fields and sets of events that belong to no one function.
pub mod Laws
pub mod EventSets
