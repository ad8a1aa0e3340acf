pub mod ReachedParts
pub mod RowLengths
pub mod WholeRows
pub mod ImportedRows
mod ExampleRows
