-- What the contracts of the exported functions cite.
pub mod Words
pub mod Answers
pub mod Examples
