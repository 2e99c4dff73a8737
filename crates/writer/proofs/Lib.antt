pub mod Boxed
pub mod Puts
pub mod Sizes
