pub mod Chains
pub mod Standing
pub mod Lists
pub mod Tables
pub mod Opening
pub mod Placing
