pub mod Grouped
pub mod GroupedLaws
pub mod SpacedGroups
