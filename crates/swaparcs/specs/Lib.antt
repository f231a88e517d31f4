pub mod Swap
pub mod Loops
pub mod Turns
