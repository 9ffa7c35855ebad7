pub mod Growing
pub mod Looking
pub mod OneEntry
pub mod Reaching
pub mod Through
