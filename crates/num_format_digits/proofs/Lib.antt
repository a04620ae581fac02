pub mod PlainLemmas
pub mod SetLemmas
pub mod TagLemmas
pub mod TextLemmas
