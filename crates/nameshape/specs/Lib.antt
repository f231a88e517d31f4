pub mod Shape
pub mod Exactly
