pub mod BufferLemmas
pub mod DigitLemmas
pub mod GroupLemmas
pub mod GroupedLemmas
pub mod TripleLemmas
mod TextExamples
pub mod TextLemmas
