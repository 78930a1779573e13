-- What the contracts of answers cite.
pub mod Outcome
pub mod Refusal
