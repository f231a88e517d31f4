pub mod Seating
pub mod Through
