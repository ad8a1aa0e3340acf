pub mod Keys
pub mod Merged
pub mod Logs
pub mod Queues
