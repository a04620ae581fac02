pub mod LookupLemmas
pub mod NameLemmas
pub mod PairLemmas
pub mod SearchLemmas
pub mod SpellingLemmas
pub mod TagLemmas
pub mod VariantLemmas
