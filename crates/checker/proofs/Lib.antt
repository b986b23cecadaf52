-- Laws that close the checker's proofs, one for each way out, over plain lists and numbers.
pub mod Asked
pub mod Widths
pub mod FirstTwo
pub mod Clauses
pub mod ItemLaws
pub mod StayLaws
pub mod Moving
pub mod ScheduleLaws
pub mod EndLaws
pub mod Decided
