pub mod ServedCells
pub mod Represented
pub mod Missed
pub mod Waited
pub mod NamedCell
