-- What is proved of the entry points for a host.
pub mod Crossing
pub mod FoundLaws
pub mod LeftLaws
pub mod TextLaws
pub mod TranslationLaws
pub mod Kept
pub mod OneAnswer
