-- What is proved of the reader of the translator's text.
pub mod KeepLaws
pub mod ByteLaws
pub mod GroupLaws
pub mod RoomLaws
pub mod EndLaws
pub mod PositionLaws
pub mod Stack
pub mod Stages
pub mod Simulated
pub mod InPieces
pub mod WholeText
pub mod Translating
pub mod OneAnswer
