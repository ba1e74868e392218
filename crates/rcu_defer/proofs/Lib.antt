pub mod Batches
pub mod Late
pub mod Orders
pub mod Sections
pub mod Shown
pub mod Waits
