pub mod Lines
pub mod Outputs
pub mod Runs
pub mod Streams
pub mod Texts
pub mod Underway
pub mod Words
