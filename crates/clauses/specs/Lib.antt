-- What the contracts of this program cite beside the rules.
pub mod Printed
