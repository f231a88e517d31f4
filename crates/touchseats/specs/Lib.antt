pub mod Touchseats
pub mod Laws
