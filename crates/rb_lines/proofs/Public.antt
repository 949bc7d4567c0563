-- Lemmas that other crates cite.
pub mod Chosen
pub mod LongLines
pub mod Sending
pub mod Walks
