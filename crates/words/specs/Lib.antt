pub mod Words
pub mod Laws
pub mod Packed
pub mod Scales
