-- What is proved of the lines of the translator's text.
pub mod WordPlaces
pub mod PlainLaws
pub mod ShapeLaws
pub mod FactLaws
pub mod OneAnswer
pub mod Deciding
