-- What is proved of the writer.
pub mod Laying
pub mod OneAnswer
