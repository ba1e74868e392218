pub mod Led
pub mod SmallRuns
