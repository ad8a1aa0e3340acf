-- What the printer looks up in a script.
pub mod LineNumbers
