pub mod Badges
