pub mod Eithers
pub mod EitherPackings
pub mod EitherRows
pub mod EitherLaws
