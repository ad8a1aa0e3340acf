pub mod MemSink
pub mod MemSource
pub mod Schedule
pub mod Sink
pub mod Source
pub mod Storage
