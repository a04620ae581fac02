-- The proofs of this crate.
mod AddLemmas
mod Common
mod HeaderLemmas
mod LineLemmas
mod PartLemmas
mod PieceLemmas
mod PlaceLemmas
mod RangeLemmas
mod RecordLemmas
