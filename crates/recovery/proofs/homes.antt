-- Laws on the homes of a page.
pub mod Cards
pub mod Moves
