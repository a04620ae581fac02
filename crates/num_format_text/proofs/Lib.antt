mod CutLemmas
mod Examples
pub mod HashLemmas
pub mod SizesLemmas
