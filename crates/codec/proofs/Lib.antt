pub mod Filed
pub mod Found
pub mod Encoded
pub mod Forward
pub mod Skips
pub mod Puts
pub mod Spelled
