-- Laws on the words that two lists share.
pub mod Turns
pub mod Labels
