pub mod Commits
pub mod Embedded
pub mod Entries
