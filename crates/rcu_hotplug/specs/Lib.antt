pub mod Hotplug
pub mod History
