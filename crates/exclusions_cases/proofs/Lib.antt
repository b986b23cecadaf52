-- What the proofs of this program's functions share.
mod Given
