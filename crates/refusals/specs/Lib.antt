-- What the contracts of the refusals cite beside the definitions of `protocol`.
pub mod Parts
