-- Laws of the mover.
pub mod FieldWords
pub mod Turns
pub mod Limits
pub mod Results
pub mod Reading
pub mod Parts
pub mod Areas
pub mod Back
pub mod MovedIn
pub mod Saying
pub mod Answering
pub mod Returned
pub mod KeptNumbers
pub mod Theorems
pub mod Examples
