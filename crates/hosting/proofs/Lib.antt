pub mod Taken
pub mod Told
