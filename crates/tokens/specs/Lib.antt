pub mod Shift
pub mod Stream
pub mod Examples
pub mod Quick
