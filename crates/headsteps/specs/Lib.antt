pub mod Steps
pub mod Short
pub mod Header
