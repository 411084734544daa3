pub mod Answering
pub mod Counting
pub mod Octetting
pub mod Seams
pub mod Turning
