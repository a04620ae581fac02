-- The capacities of a format's texts and the most bytes of a number's text, in bytes, and the number of locales.
pub use Rattle.num_format_text.specs.declared.capacities.TheConstants.{MAX_DEC_LEN, MAX_ERR_LEN, MAX_INF_LEN, MAX_MIN_LEN, MAX_NAN_LEN}
pub use Rattle.num_format_text.specs.declared.capacities.TheConstants.{MAX_PLUS_LEN, MAX_SEP_LEN}
pub use Rattle.num_format_int.specs.declared.buffer.TheConstants.{MAX_BUF_LEN}
pub use Rattle.num_format_cldr.specs.declared.TheConstants.{LEN}
