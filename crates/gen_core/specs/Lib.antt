pub mod Plain
pub mod State
pub mod Events
pub mod Room
pub mod Sound
pub mod Runs
pub mod Consequences
