-- The proofs of this crate, and the lemmas of the crates below that the proofs of callers use.
mod JsonExamples
pub mod JsonLemmas
pub mod ReadableLemmas
pub use Rattle.num_format_writers.proofs.WritingLemmas
