pub mod Lanes
pub mod Names
pub mod Outcomes
