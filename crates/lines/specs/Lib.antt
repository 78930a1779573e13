-- What the contracts of lines cite.
pub mod Line
pub mod Command
pub mod Grammar
pub mod Answer
pub mod Examples
