pub mod PlacedTexts
pub mod OneEach
pub mod Escapes
pub mod Drawings
pub mod Markups
pub mod BlankPieces
pub mod BlankPictures
pub mod Skips
pub mod SkippedPieces
pub mod NamedPictures
pub mod CountedPictures
pub mod PlacedPieces
pub mod MarkedFaults
mod PiecesByExample
mod MarksByExample
