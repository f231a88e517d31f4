pub mod Says
pub mod Judged
pub mod Bytes
pub mod Ready
pub mod Rows
pub mod Arcs
pub mod Below
pub mod Instances
pub mod Addressed
pub mod Every
pub mod Steps
-- What stands below, for the crates above.
pub use Rattle.sound.specs.One
pub use Rattle.sound.specs.Sound
pub use Rattle.sheet.specs.Find
pub use Rattle.sheet.specs.Same
pub use Rattle.sheet.specs.Search
pub use Rattle.amounts.specs.SlotArcs
pub use Rattle.amounts.specs.Current
pub use Rattle.amounts.specs.FoundSlots
pub use Rattle.amounts.specs.Numbers
pub use Rattle.amounts.specs.Shapes
pub use Rattle.amounts.specs.Slots
pub use Rattle.amounts.specs.Spelled
pub use Rattle.amounts.specs.Amounts
pub use Rattle.amounts.specs.Expand
pub use Rattle.amounts.specs.Laws
pub use Rattle.amounts.specs.Turns as AmountTurns
