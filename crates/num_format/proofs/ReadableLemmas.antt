-- Which texts parse as numbers under a format, for the proofs of callers.
pub use Rattle.num_format_parsing.proofs.ReadableLemmas.{number_read_from_parse, readable-from_accepted, unreadable-from_refused}
pub use Rattle.num_format_parsing.proofs.ReadableLemmas.{value-from_fits}
