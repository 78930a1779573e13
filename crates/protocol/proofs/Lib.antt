-- Laws on the calls' definitions, and the proofs of the demands.
pub mod Examples
pub mod checks
pub mod release
pub mod records
pub mod book
pub mod claims
pub mod invariant
pub mod recovery
pub mod join
pub mod calls
pub mod model
pub mod demands
pub mod past_limits
