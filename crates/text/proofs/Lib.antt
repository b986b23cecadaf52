-- Laws that close the functions' proofs, one for each way out, over plain lists and numbers.
pub mod Longest
pub mod Running
pub mod Heading
pub mod Answered
pub mod Taken
pub mod Room
pub mod OneAnswer
pub mod Demand
