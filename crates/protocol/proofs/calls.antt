-- Each accepted call answers what the book holds and keeps the invariant; a refused one changes nothing.
pub mod Formatting
pub mod Performed
pub mod Refused
pub mod Accepted
pub mod Opening
pub mod Step
pub mod Fetch
pub mod Failure
pub mod Recovery
pub mod Join
pub mod DeskQuestion
pub mod Each
