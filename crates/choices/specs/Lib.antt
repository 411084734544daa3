pub mod Choices
pub mod ComponentTypes
pub mod Flags
