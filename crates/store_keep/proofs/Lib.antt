pub mod Adding
pub mod Calling
pub mod Claimless
pub mod Going
pub mod Imaging
pub mod Keeping
