-- A card's area: where things stand in it, and what it says of releases and records.
pub mod Layout
pub mod RackMemory
pub mod Numbers
pub mod Releases
pub mod Record
pub mod LayoutExamples
pub mod Examples
pub mod Prelude
