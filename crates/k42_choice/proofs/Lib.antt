pub mod OwnRows
pub mod ChosenRows
pub mod ChoiceExamples
