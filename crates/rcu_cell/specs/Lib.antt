pub mod Cell
pub mod Versions
pub mod Writer
pub mod Opening
pub mod Waits
pub mod Lent
