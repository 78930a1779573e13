-- Laws that the proofs of several modules, or of the crates above, cite.
pub mod Others
pub mod Marks
pub mod InMotion
