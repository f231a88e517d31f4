pub mod Demand
pub mod Outcome
