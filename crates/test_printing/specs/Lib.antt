pub mod OwnFormat
