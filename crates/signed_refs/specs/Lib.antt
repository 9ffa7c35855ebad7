pub mod Laws
pub mod Lines
pub mod Namespaces
pub mod Readings
pub mod Refusals
pub mod Said
pub mod Signed
pub mod SignedParts
