pub mod Access
pub mod Copies
pub mod Ends
pub mod Unwritten
