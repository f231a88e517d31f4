pub mod Shape
pub mod Value
pub mod Places
pub mod Fast
pub mod Steps
pub mod Scans
