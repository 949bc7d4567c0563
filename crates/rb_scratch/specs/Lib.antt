pub mod Requests
pub mod Originals
pub mod Effects
pub mod Batches
pub mod Tried
pub mod Records
pub mod Exact
