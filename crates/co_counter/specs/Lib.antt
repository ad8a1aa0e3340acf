pub mod Counters
pub mod SharedLaws
pub mod SpreadLaws
