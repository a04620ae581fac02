-- Numbers of a fixed number of decimals: their values, how they are rounded, and their texts.
pub mod Comparing
pub mod FixedPoint
pub mod Laws
pub mod Marks
pub mod Message
pub mod Parsing
pub mod Rounded
pub mod Shapes
pub mod Text
pub mod Values
pub mod Ways
