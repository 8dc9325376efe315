-- What the proofs of several functions use.
mod Laws
mod LateLaws
mod RunLaws
mod BitLaws
