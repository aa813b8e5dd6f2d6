-- Laws of the grammar.
pub mod Binding
pub mod Items
pub mod Leaves
pub mod Complete
pub mod Sound
pub mod Unique
pub mod Letters
pub mod Sets
pub mod Evaluate
pub mod Every
