-- Laws that several crates cite.
pub mod Prelude
pub mod Bools
pub mod Lists
pub mod Search
pub mod Examples
