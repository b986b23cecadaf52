-- Laws that the program's proofs cite.
mod Laws
