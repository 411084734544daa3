pub mod Cells
pub mod Entries
pub mod Facts
pub mod Fit
pub mod Views
