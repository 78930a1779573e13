-- A card's record on another card: what it says, and how it is written.
pub mod Recorded
pub mod Settled
pub mod Failed
pub mod Own
