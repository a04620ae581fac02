pub mod Entry
pub mod Report
