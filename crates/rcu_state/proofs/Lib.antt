pub mod Changes
pub mod Periods
pub mod Timely
