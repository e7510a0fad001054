pub mod Copies
pub mod Forms
pub mod Verdicts
pub mod Readings
pub mod Judged
pub mod Validity
