pub mod Limits
pub mod Characters
pub mod Hex
pub mod Numbers
pub mod Lines
pub mod Values
pub mod Reading
