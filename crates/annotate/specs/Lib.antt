pub mod TextLaws
pub mod Statements
pub mod Devices
