pub mod Digits
pub mod Laws
pub mod Parsing
pub mod Sets
pub mod Tags
