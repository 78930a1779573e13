-- A rack beside its reference model: what the two agree in, that each call answers alike, and that it keeps them so.
pub mod Agrees
pub mod Labels
pub mod Releases
pub mod Checks
pub mod Outcome
pub mod Before
pub mod Simulation
pub mod Releasing
pub mod Reading
pub mod Cards
pub mod Recovery
pub mod Each
