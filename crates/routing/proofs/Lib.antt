pub mod AddedRoutes
pub mod Links
pub mod PairOrder
pub mod Planning
pub mod ReadKeys
pub mod ReadRepos
pub mod RidOrder
pub mod RouteNodes
