pub mod Separating
pub mod Parted
pub mod CutInput
pub mod CutVerdicts
pub mod ReadBytes
