pub mod Drawn
pub mod Ready
