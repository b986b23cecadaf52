-- What the reader of the translator's text does on its way, as definitions; what it answers is the rules' own.
pub mod Position
pub mod Intake
pub mod Facts
