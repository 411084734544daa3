pub mod Word
pub mod Pack
pub mod Line
pub mod Grid
pub mod Place
pub mod Steps
pub mod Stride
pub mod Turn
