pub mod Bounds
pub mod Entries
pub mod Places
pub mod Refuting
pub mod Simulation
pub mod Slots
pub mod Writing
