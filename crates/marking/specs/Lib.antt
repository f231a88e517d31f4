pub mod Chosen
pub mod Parts
pub mod Choosing
pub mod Laws
