pub mod Compare
pub mod Paths
