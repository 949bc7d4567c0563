-- Facts that other crates cite.
pub mod Fronts
pub mod Legal
pub mod OnAccount
pub mod Pasts
pub mod Pushes
pub mod Records
pub mod ValidClocks
