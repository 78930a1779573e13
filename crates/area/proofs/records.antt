-- Laws on the stores that make a record.
pub mod Stores
