-- What the contracts of this crate cite beside the rules.
pub mod Placed
pub mod Parts
pub mod InFamily
pub mod Front
pub mod Said
