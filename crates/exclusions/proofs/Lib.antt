-- What the proofs of this crate's functions share, laws for its caller, and that the promise determines the answer.
mod Adding
mod ByBytes
mod ByWords
mod HeadTail
mod Stems
mod Rowing
pub mod ByPair
pub mod OneAnswer
