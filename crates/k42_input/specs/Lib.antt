pub mod Separation
pub mod Verdicts
pub mod Dues
pub mod Ends
pub mod Endings
pub mod CommandLine
