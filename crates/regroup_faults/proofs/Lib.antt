-- The proofs of this crate.
pub mod DecimalLemmas
pub mod NotationLemmas
pub mod ScaleLemmas
pub mod TypedLemmas
