pub mod Workers
pub mod Lines
pub mod Plans
pub mod Passes
pub mod UnderWay
