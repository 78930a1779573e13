-- What the contracts on diffs cite. A diff is document 01's list of changes.
pub mod Format
pub mod Reading
pub mod Prices
pub mod Encoding
pub mod Marks
pub mod Room
pub mod Making
pub mod OnlyDiff
pub mod MadeDiff
pub mod Merging
pub mod MergedDiff
pub mod Examples
pub mod MergeExamples
