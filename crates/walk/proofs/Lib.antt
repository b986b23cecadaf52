-- What is proved of the walk.
pub mod Loops
pub mod Tasks
pub mod OneAnswer
