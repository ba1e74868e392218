pub mod GpState
pub mod Periods
