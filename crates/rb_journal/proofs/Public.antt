-- Lemmas that other crates cite.
pub mod Lines
pub mod Moments
pub mod Seals
