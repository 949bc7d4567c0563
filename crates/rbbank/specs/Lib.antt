pub mod Asked
pub mod Files
pub mod JournalInputs
pub mod OnDisk
pub mod SameFiles
pub mod Statuses
pub mod Tasks
