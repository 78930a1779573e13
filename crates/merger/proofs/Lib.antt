-- Laws that the functions on merging cite.
pub mod Words
pub mod Packed
pub mod Ahead
pub mod Merging
