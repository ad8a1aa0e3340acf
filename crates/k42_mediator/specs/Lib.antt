pub mod Answers
pub mod Entries
pub mod Knocks
pub mod Swaps
pub mod Parts
pub mod Taken
pub mod Transfers
pub mod Marks
