pub mod Lists
pub mod Runs
pub mod Settled
pub mod Tending
