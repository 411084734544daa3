pub mod Deriving
pub mod Kept
pub mod Once
pub mod Planned
pub mod Tiled
