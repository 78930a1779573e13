-- Laws on one page of a diff.
pub mod Range
pub mod Bits
pub mod Below
pub mod Applying
