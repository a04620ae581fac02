pub mod CauseLemmas
pub mod CommonLemmas
pub mod DigitLemmas
pub mod GroupingLemmas
pub mod GroupsLemmas
pub mod NumberLemmas
pub mod ReadableLemmas
mod ReadingExamples
pub mod ReadingLemmas
pub mod RefusalLemmas
pub mod CanonicalLemmas
mod StrictExamples
pub mod SymbolLemmas
pub mod ToldLemmas
pub mod UnreadLemmas
