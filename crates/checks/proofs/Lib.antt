-- What the checks say, as their proofs and their callers cite it.
pub mod Order
pub mod Passing
pub mod Homes
