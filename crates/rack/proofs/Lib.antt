-- What the proofs of the calls cite: what passed checks leave of a rack, and what a call leaves that is refused or
-- accepted.
pub mod ValidRack
pub mod Results
