-- What is shown.
pub mod Names
