pub mod Ready
pub mod Crews
pub mod Once
