-- Laws on recovery and join that the proofs of several modules cite.
pub mod Kept
pub mod Marks
pub mod Turns
