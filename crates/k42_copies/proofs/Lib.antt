pub mod NextRows
