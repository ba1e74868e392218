pub mod LedgerText
pub mod Orders
