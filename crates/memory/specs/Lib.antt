-- What the contracts on the lent memory cite.
pub mod Words
pub mod Examples
