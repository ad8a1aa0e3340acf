-- What the referee keeps in mind while it judges a record.
pub mod Marks
pub mod Doers
pub mod Seen
pub mod Courses
pub mod Judged
pub mod Pasts
