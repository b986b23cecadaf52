-- What the proofs of this crate's functions share.
pub mod OneLine
pub mod ByStep
pub mod InTurn
pub mod Arms
