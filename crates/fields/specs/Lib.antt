pub mod Field
pub mod Header
pub mod Items
pub mod Put
