-- Laws on reading and walking that the loops of `reader` and `conflict` cite.
pub mod Turns
pub mod Runs
pub mod Keeping
pub mod Listing
pub mod Walking
