pub mod Counts
pub mod Shares
pub mod StepActs
pub mod Sums
pub mod SwapsDone
pub mod Tallies
pub mod Numbers
pub mod LoadExamples
