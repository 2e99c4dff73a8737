pub mod Headers
pub mod Laws
pub mod Page
