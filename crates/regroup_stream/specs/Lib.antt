-- The definitions that the contracts of this crate use.
pub mod Columns
pub mod Ending
pub mod Files
pub mod Inputs
pub mod Lists
pub mod Names
pub mod Options
pub mod Stream
pub mod SumAll
pub mod Sums
pub mod Words
