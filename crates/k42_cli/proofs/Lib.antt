pub mod Records
pub mod Endings
