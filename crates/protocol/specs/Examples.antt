-- Worked examples of the calls, computed from the definitions: the exact words, number or place that a rule gives. They
-- hold what no theorem sees: a choice among equals, a place, an order, words that no answer shows.
pub mod Racks
pub mod Releases
pub mod Refusals
pub mod Recoveries
pub mod Joins
