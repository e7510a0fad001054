pub mod Texts
pub mod Dumped
pub mod Hearing
pub mod Monitored
pub mod Silent
