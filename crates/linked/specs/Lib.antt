pub mod Sheets
pub mod Stacks
pub mod Verdict
