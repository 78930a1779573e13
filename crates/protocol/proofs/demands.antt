-- The demands and what follows from demand 3.
pub mod Demand1
pub mod Demand3
pub mod AlwaysFits
pub mod ResendsRefused
pub mod CountsOnce
pub mod AnswersAsModel
pub mod AnswersAsBefore
