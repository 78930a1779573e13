-- What the proofs of the exported functions cite.
pub mod Examples
pub mod Stored
pub mod Exported
