-- What the contracts of the steps cite beside the definitions of `protocol`.
pub mod Stepping
pub mod Phases
