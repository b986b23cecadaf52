-- What the proofs of this program share.
mod Prefix
