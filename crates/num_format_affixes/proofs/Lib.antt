mod Examples
pub mod OwnLemmas
pub mod PartedLemmas
pub mod SideLemmas
