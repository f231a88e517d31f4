pub mod Form
pub mod Loops
pub mod Passed
