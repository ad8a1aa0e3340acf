-- Lemmas of the reader.
pub mod ByteCuts
pub mod EntryLines
pub mod Parts
pub mod Names
pub mod Operations
pub mod Acts
pub mod Answers
pub mod Extras
pub mod Entries
pub mod SolidTokens
pub mod SolidLines
pub mod Records
