pub mod Copies
pub mod CopyLaws
pub mod Spaced
