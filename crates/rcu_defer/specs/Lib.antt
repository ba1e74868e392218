pub mod DeferList
pub mod Deferrer
pub mod Histories
pub mod Marks
pub mod Moments
