pub mod Meaning
pub mod Counted
pub mod Incoming
pub mod PatchLaws
pub mod Demand
-- What stands below, for the crates above.
pub use Rattle.meant.specs.One
pub use Rattle.meant.specs.Sound
pub use Rattle.meant.specs.Same
pub use Rattle.meant.specs.Slots
pub use Rattle.meant.specs.Instances
pub use Rattle.meant.specs.Says
pub use Rattle.meant.specs.Where
pub use Rattle.readcells.specs.Files
pub use Rattle.readcells.specs.declared.Counts
pub use Rattle.readcells.specs.Counted as ReadCounted
pub use Rattle.readcells.specs.Refusal
pub use Rattle.readcells.specs.Tokens
pub use Rattle.readcells.specs.declared.FileRead
pub use Rattle.meant.specs.CellList
pub use Rattle.meant.specs.Annotating
pub use Rattle.meant.specs.Annotated
pub use Rattle.arcrun.specs.CellRuns
pub use Rattle.swap.specs.Swapped
pub use Rattle.swap.specs.declared.Patched
