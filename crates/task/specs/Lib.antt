-- What the contracts cite beside the rules: the families of clauses, the index of an accepted file, what is asked of, and formula numbers.
pub mod Families
pub mod Asked
pub mod Index
pub mod Numbers
