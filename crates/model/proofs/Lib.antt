-- What is proved of the program.
pub mod Ways
pub mod Prints
pub mod OneAnswer
