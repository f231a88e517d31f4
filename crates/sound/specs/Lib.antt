pub mod Coming
pub mod Groups
pub mod Sound
pub mod One
