pub mod CommitSizes
pub mod FixtureParts
pub mod Generating
pub mod KeyringLines
pub mod MoreObjects
pub mod SignedObjects
