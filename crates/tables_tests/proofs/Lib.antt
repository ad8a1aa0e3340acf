pub mod FirstCell
