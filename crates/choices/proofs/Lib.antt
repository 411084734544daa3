pub mod Numbering
pub mod Typing
