-- What a line of the translator's text says, as definitions.
pub mod Says
