pub mod AlikeExamples
pub mod AlikeLemmas
pub mod RoundTripLemmas
