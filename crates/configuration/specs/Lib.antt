pub mod Chosen
pub mod Entries
pub mod Listings
pub mod Profiles
pub mod Forms
pub mod Configurations
pub mod Encoded
pub mod RoundTrip
