-- What the proofs of this crate's functions, and of those that write beside them, share.
pub mod Overs
pub mod PartBehindPart
pub mod InWords
mod Writing
mod Packing
