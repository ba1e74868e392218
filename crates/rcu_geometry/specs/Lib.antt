pub mod Geometry
pub mod Opening
