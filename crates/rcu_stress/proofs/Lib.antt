pub mod LedgerLemmas
pub mod TortureLemmas
