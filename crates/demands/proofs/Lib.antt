-- Demands and Translated are the pages to read; Proved says that what stands in Demands holds.
pub mod Demands
pub mod Proved
pub mod Translated
