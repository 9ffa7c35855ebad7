pub mod Good
pub mod Parts
pub mod Replies
pub mod Showings
