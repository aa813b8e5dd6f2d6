-- What a plan says, where its sections stand, and how the code keeps it.
pub mod Plan
pub mod Layout
pub mod Tables
