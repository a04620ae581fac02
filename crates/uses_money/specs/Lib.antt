pub mod Currency
pub mod Money
