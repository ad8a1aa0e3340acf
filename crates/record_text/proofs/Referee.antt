-- Lemmas of the referee.
pub mod Walking
pub mod Swappers
pub mod Sight
pub mod Verdicts
pub mod Crews
pub mod Faults
pub mod Rivalry
