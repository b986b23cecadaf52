-- What is proved of the start.
pub mod Begun
pub mod Decided
