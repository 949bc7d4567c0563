pub mod Public
mod LineLaws
mod Ranges
mod ReadLaws
mod Follows
mod Exits
mod Progress
mod Made
mod Silent
