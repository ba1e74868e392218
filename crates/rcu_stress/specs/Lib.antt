pub mod Draws
pub mod Engine
pub mod Ledger
pub mod Worker
pub mod WorkerResults
