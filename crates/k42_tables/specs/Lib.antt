pub mod Entries
pub mod RootLaws
pub mod Serving
pub mod Filling
pub mod Missing
