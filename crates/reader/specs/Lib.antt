-- What the reader's contracts cite beside the rules.
pub mod Stretches
pub mod Bodies
