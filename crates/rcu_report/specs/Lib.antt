pub mod Batch
pub mod History
pub mod Replica
