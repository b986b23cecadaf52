-- What is proved of the texts.
pub mod Texts
pub mod OneAnswer
