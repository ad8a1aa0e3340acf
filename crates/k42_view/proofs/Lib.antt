pub mod OneWord
pub mod Dues
pub mod AsCheck
pub mod OneOutput
pub mod Endings
