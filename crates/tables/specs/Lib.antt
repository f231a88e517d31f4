pub mod Layout
pub mod Pastes
pub mod Left
