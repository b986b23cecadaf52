-- Laws that close the functions' proofs, one for each way out, over plain lists and numbers.
pub mod ReadContents
pub mod ReadChecks
pub mod ReadActions
pub mod ReadFile
pub mod OneAnswer
