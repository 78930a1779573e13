-- Laws of the directory's definitions.
pub mod Examples
pub mod Live
pub mod Table
pub mod Changes
pub mod NewHome
pub mod PageCounts
