pub mod Answer
pub mod Fault
pub mod Input
pub mod Lines
pub mod Output
pub mod Program
pub mod Room
