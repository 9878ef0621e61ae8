pub mod File
pub mod Input
pub mod Program
pub mod Refusal
pub mod Text
