-- Laws that close the functions' proofs, one for each way out, over plain lists and numbers.
pub mod Finding
pub mod Counted
pub mod ByPlace
pub mod Writing
pub mod Numbered
pub mod Supported
pub mod Spelled
pub mod Answered
pub mod OneAnswer
pub mod Demand
