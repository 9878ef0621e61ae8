pub mod Codes
pub mod Layers
