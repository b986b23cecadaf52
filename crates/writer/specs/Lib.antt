-- A task file of four bodies, as a definition.
pub mod Laid
