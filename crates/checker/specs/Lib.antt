-- What the checker's contracts cite beside the rules.
pub mod Order
pub mod Staying
pub mod End
