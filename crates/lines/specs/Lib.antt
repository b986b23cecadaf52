-- What the contracts of this crate cite beside the rules.
pub mod Written
pub mod AtPlace
pub mod Given
