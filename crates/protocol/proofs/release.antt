-- The stores of a release, and what its steps make of the words of an area.
pub mod Writes
pub mod WordAfter
pub mod Shape
pub mod OneWrite
pub mod Opening
pub mod Step
pub mod Close
