pub mod Accepted
mod Histories
