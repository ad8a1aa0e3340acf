pub mod Below
pub mod Placing
pub mod Merges
pub mod Queueing
pub mod Shifting
pub mod Collected
mod MergeExamples
