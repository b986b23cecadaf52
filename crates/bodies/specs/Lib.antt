-- What is kept of the translator's text, as definitions.
pub mod Keeping
pub mod InOrder
