pub mod SeenNames
pub mod CopyLemmas
mod ExampleRows
