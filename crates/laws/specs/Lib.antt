-- Definitions that several crates cite.
pub mod Search
pub mod Examples
pub mod Text
