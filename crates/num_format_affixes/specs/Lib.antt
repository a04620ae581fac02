pub mod Accounting
pub mod Affixes
pub mod Characters
pub mod Laws
pub mod Parted
pub mod Sides
