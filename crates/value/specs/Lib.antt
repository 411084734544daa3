pub mod Coded
pub mod Complexes
pub mod Components
pub mod Floating
pub mod Floats
pub mod Paired
pub mod Patterns
