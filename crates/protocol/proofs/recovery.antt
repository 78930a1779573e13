-- A recovery takes a rack that awaits it to one that runs.
pub mod Closing
pub mod Restoring
pub mod Copying
pub mod Homes
pub mod BeforeRecords
pub mod Records
pub mod Recovered
