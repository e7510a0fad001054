pub mod Escaped
pub mod Segments
pub mod Frames
pub mod Cuts
pub mod Cursors
