pub mod Joining
pub mod BackAgain
pub mod Appended
pub mod Lasts
pub mod Sizes
pub mod Pushed
mod ExampleLogs
