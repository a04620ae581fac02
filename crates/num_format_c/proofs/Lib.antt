pub mod ArithmeticLemmas
pub mod ByteLemmas
pub mod DigitLemmas
pub mod LayoutLemmas
pub mod NameLemmas
pub mod ParsingLemmas
pub mod TextLemmas
