pub mod Findseat
pub mod Laws
