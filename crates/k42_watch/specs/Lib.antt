pub mod Bare
pub mod WatchedRows
pub mod CountLaws
pub mod WatchLaws
