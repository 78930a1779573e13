-- The book at calls and at recoveries.
pub mod Changes
pub mod Counting
pub mod Closing
