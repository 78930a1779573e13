-- What the contracts of the commands cite.
pub mod Execute
pub mod Examples
