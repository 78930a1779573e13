-- Laws on a page restored.
pub mod Cases
pub mod Homes
