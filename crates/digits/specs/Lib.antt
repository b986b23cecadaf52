-- What the contracts of this crate cite beside the rules.
pub mod Over
pub mod Bound
pub mod Word
