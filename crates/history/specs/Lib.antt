pub mod Events
pub mod Sheet
pub mod Worked
pub mod Faults
pub mod Scan
pub mod Ranges
pub mod BySlots
pub mod Places
