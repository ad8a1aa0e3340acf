-- Lemmas of the printer.
pub mod LineLookups
pub mod LineParts
