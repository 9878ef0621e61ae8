pub mod Answer
pub mod Refusal
pub mod SystemFile
pub mod StrikeList
pub mod Flattening
pub mod SystemWrite
pub mod Wrote
pub mod Few
