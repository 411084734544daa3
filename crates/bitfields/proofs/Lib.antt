pub mod Fields
pub mod WordReads
pub mod WordWrites
pub mod Placed
