pub mod Order
pub mod Orders
pub mod Name
pub mod Laws
pub mod Examples
