pub mod Durables
pub mod Events
pub mod GoodStandings
pub mod ShortContents
