pub mod Fits
pub mod RoundTrip
