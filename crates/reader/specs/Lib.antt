-- What the contracts of the reader cite beside the definitions of `diff`.
pub mod WellFormed
pub mod Runs
pub mod Walking
pub mod Left
pub mod Labels
