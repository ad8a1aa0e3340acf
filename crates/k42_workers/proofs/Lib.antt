pub mod Filtered
pub mod Judged
pub mod Working
pub mod Halved
pub mod Planned
pub mod Answered
pub mod Ended
