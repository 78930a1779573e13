-- What the contracts of the interpreter cite.
pub mod Transcript
