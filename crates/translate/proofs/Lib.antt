-- What is proved of the program.
pub mod Prints
pub mod OneAnswer
