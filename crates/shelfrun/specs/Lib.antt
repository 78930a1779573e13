-- What the contracts of shelfrun cite.
pub mod Answers
