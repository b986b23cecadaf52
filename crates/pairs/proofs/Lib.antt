-- What the proofs of this crate's functions share, in how many turns a pair is found, and that the promises determine the answers.
pub mod Halving
mod Pair
pub mod Turns
pub mod OneAnswer
