pub mod SegList
pub mod Entries
pub mod Cuts
pub mod Segments
pub mod Walks
pub mod Refused
