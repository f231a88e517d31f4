pub mod Exports
-- What stands below, for the crates above.
pub use Rattle.patch.specs.Annotating
pub use Rattle.patch.specs.Meaning as Patching
