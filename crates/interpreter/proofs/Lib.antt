-- Laws that the interpreter's proofs cite.
pub mod Parts
pub mod Transcript
