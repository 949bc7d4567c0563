pub mod Public
mod OneTurn
mod Crash
mod Intact
mod Quiet
mod Advance
mod Runs
mod Follow
mod Dropping
mod Ending
