-- Laws on releases run to their close.
pub mod Releases
