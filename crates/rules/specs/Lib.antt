pub mod Rules
pub mod Entries
pub mod Interleaving
pub mod Packing
pub mod Tiles
pub mod Typing
pub mod Whole
