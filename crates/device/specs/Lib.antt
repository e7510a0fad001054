pub mod Limits
pub mod Places
pub mod Meaning
pub mod Lookup
pub mod Changes
pub mod Answers
pub mod Laws
pub mod Assignments
