pub mod CellBack
pub mod Handed
pub mod OneCell
pub mod PassLists
pub mod Alike
