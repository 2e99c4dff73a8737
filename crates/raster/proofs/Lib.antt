pub mod Likeness
pub mod Puts
pub mod Rounding
