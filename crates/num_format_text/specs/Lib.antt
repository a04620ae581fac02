pub mod Characters
pub mod Cut
pub mod English
pub mod Equality
pub mod Format
pub mod GroupingNames
pub mod Refusal
pub mod Separators
