pub mod Accepts
pub mod Contents
pub mod Keys
pub mod Laws
pub mod Lines
pub mod Readers
pub mod Texts
