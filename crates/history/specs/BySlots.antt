-- The new file's events, as patching reads them (the laws: proofs/BySlots.antt).
-- Assumes nothing.
use mathlib.Core.List.{List, ◌++◌}
use Rattle.history.specs.Events.{Event, lenient}
use Rattle.history.specs.Sheet.{Records, Slot, Cell, Cut, events, file_events}

module _ (records : Records) {Word : Type 0} where
  -- the new file's events, as patching reads them
  unfoldable pub new_events : Cut (Cell Word) → Cell Word → List (Event Slot Word)
  new_events p incoming = lenient (file_events records p.before) ++ (events records incoming ++ lenient (file_events records p.after))
