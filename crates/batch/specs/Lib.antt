-- What the contracts of the batched calls cite.
pub mod Steps
pub mod FetchAll
pub mod Showing
pub mod Demand1
