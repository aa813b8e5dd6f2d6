-- The tables of plans and of patterns, with their refusals before and in the items.
pub mod Plans
pub mod Items
