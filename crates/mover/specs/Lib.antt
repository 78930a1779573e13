-- The mover: the two forms of a rack's memory, the fields that both have, and moves from one form to the other.
pub mod Forms
pub mod Fields
pub mod Move
pub mod Moving
pub mod Areas
pub mod Theorems
pub mod Examples
