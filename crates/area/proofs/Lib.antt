-- Laws on a card's area: its numbers, its regions, and what it says of releases and records.
pub mod Examples
pub mod Prelude
pub mod NumberWords
pub mod Regions
pub mod OwnWords
pub mod Record
