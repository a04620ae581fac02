-- The definitions that contracts cite.
pub mod Records
pub mod Fields
pub mod Places
pub mod Lines
pub mod Adding
pub mod Examples
pub mod Parts
pub mod Header
pub mod Laws
pub mod Ranges
