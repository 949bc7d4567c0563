pub mod Bank
pub mod Runs
pub mod Tellers
