pub mod Wire
pub mod Round
pub mod Frame
