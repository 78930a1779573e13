-- What the contracts of the checks cite beside the definitions of `protocol`.
pub mod Homes
pub mod Numbers
