pub mod Fields
pub mod FrameReaders
pub mod Frames
pub mod FramesSpelled
pub mod Judging
pub mod Messages
pub mod Recordings
pub mod Wires
