-- What the checks of calls tell: of an accepted call each that it passed, of a rack what checks 1 and 2 leave.
pub mod Outcome
pub mod Agree
pub mod ByCall
pub mod Limits
pub mod ValidDirectory
