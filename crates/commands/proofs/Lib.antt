-- Laws that the commands' proofs cite.
pub mod Examples
pub mod Results
