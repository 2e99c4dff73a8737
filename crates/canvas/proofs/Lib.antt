pub mod Each
pub mod Keeping
pub mod Opening
pub mod Running
pub mod Stacking
pub mod Touching
pub mod Worked
