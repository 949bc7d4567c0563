-- Facts that other crates cite.
pub mod Tests
pub mod Configured
