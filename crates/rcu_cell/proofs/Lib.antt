pub mod Loads
pub mod Kept
pub mod Updates
pub mod Waits
