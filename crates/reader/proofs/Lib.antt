pub mod Earlier
pub mod Granted
pub mod Ids
pub mod Offsets
pub mod Skipped
pub mod Walks
