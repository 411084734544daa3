pub mod Entering
pub mod Choosing
pub mod Numbering
pub mod Listable
pub mod Configurable
