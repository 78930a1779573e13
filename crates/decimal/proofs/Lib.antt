-- Laws on digits.
pub mod Digits
pub mod Examples
