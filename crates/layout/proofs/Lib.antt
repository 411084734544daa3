pub mod Grouping
pub mod Starting
pub mod Summing
mod Entries
mod Strides
mod Rounds
mod Runs
pub mod Finding
pub mod Homes
pub mod Placing
pub mod Located
pub mod Tabling
pub mod Making
