pub mod Adding
pub mod Heading
pub mod Pairs
pub mod Showing
