pub mod Tries
pub mod Tasks
pub mod Steps
pub mod Rounds
