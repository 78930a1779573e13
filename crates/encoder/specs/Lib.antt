-- What the contracts on writing diffs cite beside the definitions of `diff`.
pub mod Page
pub mod Room
