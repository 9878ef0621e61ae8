mod Came
pub mod Part
