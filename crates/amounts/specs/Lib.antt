pub mod Amounts
pub mod Turns
pub mod Laws
pub mod Expand
-- What stands below, for the crates above.
pub use Rattle.slots.specs.Arcs as SlotArcs
pub use Rattle.slots.specs.Current
pub use Rattle.slots.specs.Found as FoundSlots
pub use Rattle.slots.specs.Numbers
pub use Rattle.slots.specs.Shapes
pub use Rattle.slots.specs.Slots
pub use Rattle.slots.specs.Spelled
