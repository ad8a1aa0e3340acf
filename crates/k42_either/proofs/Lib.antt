pub mod PackedEithers
pub mod LowTags
pub mod EitherExamples
pub mod EitherParts
