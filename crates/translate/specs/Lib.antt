-- What the program does on its way, as definitions; what it prints is the rules' own.
pub mod Parts
