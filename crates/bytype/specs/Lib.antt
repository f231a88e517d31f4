pub mod Chains
pub mod ByType
