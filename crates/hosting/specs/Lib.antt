pub mod Answers
pub mod Calls
pub mod Fault
pub mod Files
pub mod Held
pub mod Stored
pub mod Tested
