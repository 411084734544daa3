pub mod Uris
pub mod Describing
pub mod Defining
pub mod Definable
