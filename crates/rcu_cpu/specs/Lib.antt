pub mod CpuData
pub mod Sections
