pub mod LeastOf
pub mod Chunks
