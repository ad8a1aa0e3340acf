pub mod PaddedFront
pub mod WordLengths
pub mod Splits
pub mod Ends
pub mod LegalHistories
pub mod LongerHistories
pub mod ExampleLines
pub mod AcceptedHistories
pub mod LegalSoFar
pub mod RowSteps
pub mod RefusedHistories
mod RefusedAnswers
pub mod FiguresTold
mod ExampleFigures
mod WatchedHistories
pub mod Implementations
pub mod SeenMaps
pub mod FiniteMaps
pub mod ObjectLaws
pub mod PackedLemmas
mod ExamplePackings
