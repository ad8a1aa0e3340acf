pub mod FreePasses
pub mod CrewExamples
