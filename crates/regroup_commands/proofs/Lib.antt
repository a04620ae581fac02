pub mod CertificateLemmas
mod Examples
pub mod LocaleLemmas
pub mod NameLemmas
pub mod RequestLemmas
pub mod SendingLemmas
