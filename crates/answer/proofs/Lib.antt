-- Laws on answers that the calls cite.
pub mod InOrder
pub mod Refusals
