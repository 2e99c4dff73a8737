pub mod Codes
pub mod Field
pub mod Frame
pub mod Numbers
pub mod Table
pub mod Tests
