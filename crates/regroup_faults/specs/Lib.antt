-- The definitions that the contracts of this crate use.
pub mod Decimals
pub mod Fault
pub mod Messages
pub mod Notation
pub mod Quoting
pub mod Reading
