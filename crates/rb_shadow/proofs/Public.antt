-- Facts that other crates cite.
pub mod Balances
pub mod Clocks
pub mod Covered
pub mod Digits
pub mod Eligible
pub mod Lookups
pub mod Members
pub mod NameOf
pub mod SameShadows
pub mod SoundFacts
pub mod Totals
