pub mod Exact
pub mod SeaState
pub mod Within
