-- What the contracts of recovery and join cite beside the definitions of `protocol`.
pub mod Closing
pub mod Rack
