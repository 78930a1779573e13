-- What each call reads of a directory stands below its cards and pages.
pub mod Changes
pub mod Directory
pub mod Checks
pub mod Call
pub mod Formatting
pub mod Opening
pub mod Writes
pub mod Step
pub mod Reading
pub mod Failure
pub mod RecoveredMemory
pub mod Recovery
pub mod Join
pub mod PastLimits
