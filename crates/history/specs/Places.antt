-- Answers, entries and cells with other words (places) in place of theirs (the laws: proofs/Places.antt).
-- Assumes nothing.
use mathlib.Core.List.{map}
use Rattle.history.specs.Events.{Answer, sheet, refused}
use Rattle.history.specs.Sheet.{Entry, Cell}

module _ {Slot Word Other : Type 0} (f : Word → Other) where
  -- an answer: the refusal's word is another
  unfoldable pub renamed_answer : Answer Slot Word → Answer Slot Other
  renamed_answer (sheet v) = sheet v
  renamed_answer (refused n w) = refused n (f w)

module _ {Word Other : Type 0} (f : Word → Other) where
  -- an entry, and a cell with all its entries: their own words are others, and nothing else is
  unfoldable pub renamed_entry : Entry Word → Entry Other
  renamed_entry e = record { word = f e.word; kind = e.kind; group = e.group; first = e.first; second = e.second; values = e.values }

  unfoldable pub renamed_cell : Cell Word → Cell Other
  renamed_cell c = record { word = f c.word; type = c.type; part = c.part; entries = map renamed_entry c.entries }
