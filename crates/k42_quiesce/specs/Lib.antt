pub mod Activities
pub mod Gracing
pub mod Quiet
pub mod Reclaiming
pub mod Collecting
