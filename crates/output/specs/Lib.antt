-- What the reader of solver lines does on its way, as definitions; what it answers is the rules' own.
pub mod Words
pub mod Trial
pub mod Line
pub mod Feeding
