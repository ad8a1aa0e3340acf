pub mod FirstCell
pub mod GivenBack
