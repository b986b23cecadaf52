-- What is proved of rows of bits.
pub mod Bits
pub mod Words
pub mod StretchLaws
pub mod Decided
