-- The proofs of this crate.
mod AddLemmas
mod ChoiceLemmas
mod ChosenLemmas
mod Common
pub mod CsvLemmas
mod CursorLemmas
mod Examples
mod FieldLemmas
mod HeaderLemmas
mod InputLemmas
pub mod LineFaultLemmas
mod LineLemmas
mod LongLemmas
mod NumberedLemmas
mod PlaceLemmas
mod ProgressLemmas
mod RecordLemmas
mod SentLemmas
pub mod SplitLemmas
mod TextLemmas
mod ToldLemmas
mod UnnamedLemmas
mod WriterLemmas
