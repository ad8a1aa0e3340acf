pub mod TriedCalls
pub mod LinesBegun
pub mod LinesDone
pub mod ItemsDone
pub mod LinesTried
pub mod TaskLists
pub mod Crewed
