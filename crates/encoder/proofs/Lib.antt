-- Laws on the words that pages bring to a diff.
pub mod Changed
pub mod Bits
pub mod Counting
pub mod Runs
pub mod Writing
pub mod Pages
pub mod Room
