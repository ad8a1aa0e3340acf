pub mod Names
pub mod Details
pub mod Heads
pub mod Entries
pub mod Stored
pub mod Standing
pub mod Logs
pub mod LogFields
