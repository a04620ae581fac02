-- The definitions that the contracts of this crate use.
pub mod Command
pub mod Laws
pub mod Locales
pub mod Output
pub mod Request
pub mod Sending
