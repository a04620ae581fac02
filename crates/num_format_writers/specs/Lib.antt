-- What a call did to its writer, and what is displayed in a column.
pub mod Columns
pub mod Writers
pub mod Writing
