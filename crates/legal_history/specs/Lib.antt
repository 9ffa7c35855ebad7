pub mod Advancing
pub mod Cores
pub mod Durable
pub mod Histories
pub mod Laws
pub mod Replays
