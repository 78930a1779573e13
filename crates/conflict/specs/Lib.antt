-- What the contracts of the searches cite beside the definitions of `protocol`.
pub mod Others
pub mod Marks
pub mod Sharing
pub mod Motion
