-- A join leaves a rack that runs.
pub mod Area
pub mod Memory
pub mod Rack
