pub mod Scan
pub mod Machines
pub mod Runs
pub mod RunLaws
