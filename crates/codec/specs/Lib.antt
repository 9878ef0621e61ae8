pub mod Number
pub mod Filing
pub mod Sequence
pub mod Put
