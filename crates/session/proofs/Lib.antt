pub mod Cutting
pub mod Obeyed
pub mod Sessions
