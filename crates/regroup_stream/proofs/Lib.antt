pub mod FaultyLemmas
pub mod InputLemmas
pub mod ListLemmas
pub mod NameLemmas
pub mod SplitLemmas
pub mod StreamLemmas
pub mod SumLemmas
pub mod TabLemmas
