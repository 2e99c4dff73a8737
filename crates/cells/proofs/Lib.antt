pub mod Columns
pub mod Lines
pub mod Passing
pub mod Places
pub mod Rests
pub mod Showing
pub mod Steps
