pub mod FlagLaws
pub mod Flags
