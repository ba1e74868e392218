pub mod Capacities
pub mod Children
pub mod Counts
pub mod Levels
pub mod Places
