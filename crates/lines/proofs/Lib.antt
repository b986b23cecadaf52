-- What the proofs of this crate's functions share.
pub mod Writes
pub mod ByPlace
pub mod Noting
pub mod Supported
