-- Lemmas that other crates cite.
pub mod Appended
pub mod Banks
pub mod Each
pub mod IdText
pub mod Listed
