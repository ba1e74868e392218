mod Keeping
mod Steps
