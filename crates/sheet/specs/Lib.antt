pub mod Search
pub mod Find
pub mod Same
