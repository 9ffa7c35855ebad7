pub mod Adding
pub mod NamesBeyond
pub mod Replying
pub mod SectionTexts
pub mod Sent
pub mod Standing
