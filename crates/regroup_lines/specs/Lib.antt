-- The definitions that the contracts of this crate use.
pub mod Adding
pub mod Csv
pub mod Cursor
pub mod Ended
pub mod Fields
pub mod Header
pub mod Input
pub mod Laws
pub mod LineFaults
pub mod Lines
pub mod Places
pub mod Records
pub mod Sending
