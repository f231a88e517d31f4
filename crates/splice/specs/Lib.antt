pub mod Swap
pub mod Moved
pub mod Span
