-- The examples hold.
pub mod Releases
pub mod Refusals
pub mod Recoveries
pub mod Joins
