pub mod Fields
pub mod Frames
