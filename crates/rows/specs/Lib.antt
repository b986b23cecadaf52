-- What the contracts of this crate cite beside the rules.
pub mod Bound
pub mod Bits
pub mod Stretch
pub mod Lent
