-- Laws on the pages in motion.
pub mod Turns
pub mod Joined
