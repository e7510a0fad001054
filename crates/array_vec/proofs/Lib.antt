pub mod Edits
pub mod Holding
