-- Laws on lines and answers.
pub mod Examples
pub mod Parts
pub mod Forms
pub mod Unreadable
pub mod Numbers
pub mod FieldsRead
pub mod Resuming
pub mod Grammar
pub mod Begun
pub mod Answer
