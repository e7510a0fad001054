pub mod Texts
pub mod Obeying
pub mod Sessions
