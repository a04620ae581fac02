-- The definitions that the contracts of this crate use.
pub mod Arithmetic
pub mod Calls
pub mod Columns
pub mod FormatRef
pub mod Layout
