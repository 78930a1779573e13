-- What the contracts on merging cite beside the definitions of `diff`.
pub mod Page
pub mod Made
