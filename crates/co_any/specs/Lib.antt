pub mod Lifting
pub mod LiftedLaws
pub mod Layouts
pub mod AnyLaws
pub mod BareLaws
