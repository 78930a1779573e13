-- What the contracts on numbers in decimal cite.
pub mod Decimal
pub mod Examples
