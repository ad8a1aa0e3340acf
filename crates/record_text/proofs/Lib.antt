pub mod Printer
pub mod Reader
pub mod Referee
pub mod BareEntries
pub mod Rebuilt
pub mod Reread
pub mod OneHistory
pub mod Openings
pub mod GenerationExamples
mod BrokenRules
