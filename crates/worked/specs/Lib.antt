-- Worked numbers.
pub mod Rows
