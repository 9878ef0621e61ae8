pub mod Decided
pub mod Good
pub mod Grounds
pub mod Laws
pub mod Refused
pub mod Runs
