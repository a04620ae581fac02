pub mod BytesError
pub mod Laws
pub mod Parts
pub mod Readable
pub mod Reading
pub mod Shapes
pub mod Strict
pub mod Symbols
