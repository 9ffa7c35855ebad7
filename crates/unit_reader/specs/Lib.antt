pub mod Fed
pub mod Spelling
pub mod Units
