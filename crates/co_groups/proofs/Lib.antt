pub mod ReachedParts
pub mod GroupExamples
