pub mod Batches
pub mod Histories
pub mod Items
