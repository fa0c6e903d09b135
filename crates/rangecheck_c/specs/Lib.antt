pub mod Answer
pub mod Slots
