pub mod Chains
pub mod Fixture
pub mod Generated
pub mod Objects
pub mod Repositories
pub mod Shown
pub mod Signers
