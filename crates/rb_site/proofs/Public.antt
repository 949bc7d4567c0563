-- Lemmas that other crates cite.
pub mod Lists
pub mod Outcomes
pub mod Places
pub mod Recorded
pub mod Runs
pub mod Seen
pub mod Stuck
pub mod Unchanging
