-- The invariant of demand 3, and what keeps it.
pub mod Core
pub mod Kept
pub mod Rack
pub mod Found
pub mod Running
pub mod Formatted
pub mod Opening
pub mod Step
pub mod ShownPrice
pub mod Shown
pub mod Failure
pub mod TwoStay
pub mod Fits
