pub mod Boxes
pub mod Digits
pub mod Headers
pub mod Objects
pub mod Pages
pub mod Plans
