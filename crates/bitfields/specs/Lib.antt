pub mod Field
pub mod Reading
pub mod Writing
pub mod Plans
