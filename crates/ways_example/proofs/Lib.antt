pub mod GivenTokens
pub mod QuestionExamples
