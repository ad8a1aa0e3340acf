pub mod Relations
pub mod Rooms
