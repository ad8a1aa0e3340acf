pub mod Directories
pub mod SharedLaws
pub mod SpreadLaws
