-- How the reader takes a text apart.
pub mod Lines
pub mod Cursor
pub mod Parts
pub mod ActParts
pub mod AnswerParts
pub mod LineParts
