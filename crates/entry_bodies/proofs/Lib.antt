pub mod Bodies
pub mod Contents
pub mod HeardSizes
pub mod ReadSoFar
