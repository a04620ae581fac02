pub mod Names
pub mod Search
pub mod Lookup
pub mod Data
pub mod Laws
pub mod Pairs
