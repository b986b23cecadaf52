-- What is proved of schedules: the bits of the way back, and laws that close the functions' proofs, over plain lists and numbers.
pub mod Packing
pub mod UpTo
pub mod BackBits
pub mod WalkLaws
pub mod WriteLaws
pub mod BackLaws
pub mod OneAnswer
pub mod Answered
