pub mod EmptyHandles
