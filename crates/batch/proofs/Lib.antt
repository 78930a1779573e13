-- Laws that the proofs of the batched calls cite.
pub mod Checked
pub mod Fetching
pub mod Stepping
pub mod Refused
