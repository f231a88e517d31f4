pub mod Ends
pub mod Ports
