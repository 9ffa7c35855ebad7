pub mod Plans
pub mod RoutesOf
pub mod RulesFiles
