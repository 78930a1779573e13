-- Laws on the steps of a release.
pub mod Callers
pub mod Counting
pub mod Ends
pub mod Halves
pub mod Kept
pub mod Left
pub mod Prices
pub mod Stores
