-- What is proved of the bodies kept.
mod InOrder
mod InOrderBytes
pub mod KeepSound
pub mod KeepLengths
mod Keep
pub mod OneAnswer
pub mod Alike
pub mod Judged
pub mod Beyond
pub mod Held
pub mod HeldBodies
pub mod States
pub mod Verdicts
