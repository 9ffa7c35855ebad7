pub mod AcceptOrder
pub mod DirectTexts
pub mod Files
pub mod LineFronts
pub mod LinesOf
pub mod Messages
pub mod Names
pub mod Saying
