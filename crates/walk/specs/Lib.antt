-- What the walk's contracts cite beside the rules.
pub mod Lent
