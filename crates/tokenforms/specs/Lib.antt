pub mod Tokens
pub mod Local
pub mod HereLaws
