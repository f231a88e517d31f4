pub mod Keys
pub mod Asked
