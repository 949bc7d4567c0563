pub mod Buffers
pub mod Faults
pub mod Lines
pub mod Messages
pub mod Writes
pub mod Answers
