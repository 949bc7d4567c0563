pub mod Bank
pub mod Served
