pub mod Limits
pub mod Naks
pub mod Items
pub mod Spaces
pub mod Requests
pub mod Asked
