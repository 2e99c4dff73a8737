pub mod Blends
pub mod Covers
pub mod Meanings
pub mod Samples
pub mod Scanlines
pub mod Shortages
pub mod Shown
pub mod Touches
