pub mod Announcements
pub mod Filters
pub mod Held
pub mod Keys
pub mod Laws
pub mod Tables
