pub mod Frames
pub mod Stored
pub mod Texts
