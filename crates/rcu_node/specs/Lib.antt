pub mod CpuSet
pub mod Masks
pub mod Words
pub mod Reports
pub mod Merging
pub mod Steps
