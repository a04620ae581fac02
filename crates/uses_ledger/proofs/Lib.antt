pub mod EntryLemmas
pub mod ReportLemmas
pub mod SumLemmas
