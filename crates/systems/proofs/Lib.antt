pub mod Bounded
pub mod Held
pub mod LaidOut
pub mod Once
pub mod Translated
pub mod Written
