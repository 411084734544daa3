pub mod Components
pub mod Definitions
pub mod Encoded
pub mod RoundTrip
