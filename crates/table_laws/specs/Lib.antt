pub mod Numbers
pub mod Fields
pub mod Seating
pub mod Opening
pub mod Kept
