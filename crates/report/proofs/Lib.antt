pub mod Front
pub mod Listed
pub mod Part
pub mod Told
pub mod Written
