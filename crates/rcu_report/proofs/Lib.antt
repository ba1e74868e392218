pub mod Awaiting
pub mod Batches
pub mod Histories
pub mod Merged
pub mod Replicas
