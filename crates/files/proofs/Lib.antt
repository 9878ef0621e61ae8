pub mod Complete
pub mod Described
pub mod Faults
pub mod FileSize
pub mod Puts
pub mod Spelled
pub mod Tested
pub mod Unspelled
