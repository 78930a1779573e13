-- Laws on the lent memory: its indices, its words, its runs of words, and parts of it that are lent on.
pub mod Examples
pub mod Index
pub mod Words
pub mod Runs
pub mod Parts
