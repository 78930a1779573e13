-- The claims of the invariant on page words.
pub mod Claim
pub mod Halves
pub mod SameHomes
pub mod Step
