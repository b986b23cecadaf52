-- What a search by halving finds, and in how many turns: for this crate's proofs, and for searches above it.
pub mod Halving
