pub mod Classes
pub mod Laws
pub mod Trimming
pub mod Typed
