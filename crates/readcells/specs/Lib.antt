pub mod Counted
pub mod Whole
pub mod Left
pub mod Files
-- What stands below, for the crates above.
pub use Rattle.tokenforms.specs.Tokens
pub use Rattle.tokenforms.specs.declared.Refusal
