-- Laws that close the functions' proofs: what stands where in an accepted file and in its index.
pub mod Families
pub mod Rows
pub mod Bytes
pub mod Fitting
pub mod Asking
pub mod Stated
pub mod OneAnswer
