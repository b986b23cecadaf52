-- What is proved of the numbers and details of refusals.
pub mod OneAnswer
