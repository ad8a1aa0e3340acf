pub mod Written
pub mod EachPlaces
pub mod EachPairs
pub mod Counts
pub mod Rests
pub mod Appended
pub mod PlaceExamples
