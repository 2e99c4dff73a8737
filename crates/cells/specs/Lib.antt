pub mod Gathers
pub mod Outcomes
pub mod Passes
pub mod Refusals
pub mod Shows
pub mod Windows
