pub mod Finishing
pub mod Keeping
pub mod Opened
pub mod Laws
pub mod Sections
pub mod Tags
pub mod Settled
