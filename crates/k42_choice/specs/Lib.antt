pub mod Living
pub mod Lifting
pub mod LiftedLaws
pub mod Mortals
pub mod MortalLaws
pub mod Choices
pub mod ChoiceLaws
