pub mod Choices
pub mod Numbered
pub mod Found
pub mod Bytes
pub mod Changed
pub mod Several
