-- Facts that other crates cite.
pub mod Batches
pub mod Errors
pub mod Fits
pub mod Made
pub mod Makes
