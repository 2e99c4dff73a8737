pub mod Canvases
pub mod Cases
pub mod Placements
pub mod Runs
pub mod Sheets
pub mod Views
