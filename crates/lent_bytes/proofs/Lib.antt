-- What is proved of bytes by their place, of words and of texts compared.
pub mod WordLaws
pub mod SameLaws
pub mod OneAnswer
