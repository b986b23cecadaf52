pub mod States
pub mod Cells
pub mod Texts
