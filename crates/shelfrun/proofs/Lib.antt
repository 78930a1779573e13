-- Laws that the program's proofs cite.
pub mod Parts
