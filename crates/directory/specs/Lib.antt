-- What the directory's contracts cite.
pub mod Live
pub mod Directory
pub mod NewHome
pub mod PageCounts
pub mod Examples
pub mod Lent
