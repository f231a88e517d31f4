-- What the annotator's contract says, under the names that the papers ask for.
-- Assumes nothing.
use Rattle.std.specs.Prelude.{ℕ, ◌≡◌, refl, Bool, true, false, ◌↔◌}
use Rattle.std.proofs.Common.{sym, ◌∙◌}
use mathlib.Core.List.{List, [], ◌∷◌, Memᴰ}
use Rattle.std.proofs.Math.Option.{none}
use Rattle.classes.specs.Choice.{or}
use Rattle.grammar.specs.Reading.{At}
use Rattle.sheetlaws.specs.Sheet.{Sheet}
use Rattle.history.specs.Events.{Value, Supply, nothing, replace, add, holds, step, next, history, Event, sheet, any_of, supplied, supply}
use Rattle.history.proofs.EventLaws.{clash, holds_inj}
use Rattle.history.specs.Sheet.{Slot, Values, file_events}
use Rattle.history.specs.Sheet as history
use Rattle.history.proofs.Demands.{demand_2}
use Rattle.meaning.specs.Slots.{records_of, values_of}
use Rattle.meaning.specs.declared.Annotated.{Annotated}
use Rattle.meaning.specs.Meaning.{said, Course, AnnotateIs}

-- HISTORY HOLDS, demand 2's second half: annotating the sheet s with the text that was read as st gives the values v exactly if no cell gets 12 or 13 and
-- no entry 14, and in every slot the history over all entries, in file order and from the starting value, ends without 15 or 16, in v
pub history-holds : (s : Sheet) (text : List ℕ) (st : At) (v : Values)
    → (history.annotate (records_of s) (values_of s) (said text st) ≡ sheet v)
    ↔ (((e : Event Slot ℕ) → Memᴰ e (file_events (records_of s) (said text st)) → e.own ≡ none)
    × ((t : Slot) → history (holds (values_of s t)) (file_events (records_of s) (said text st)) t ≡ holds (v t)))
history-holds s text st v = demand_2 (records_of s) (values_of s) v (said text st)

-- a slot that an event does not supply keeps its value
kept : (v : Value) (x : Supply) → supplied x ≡ false → next (holds v) x ≡ holds v
unfolding next step supplied
kept v nothing e = refl
kept v (replace z) e = clash (sym e)
kept v (add z) e = clash (sym e)

stays : (es : List (Event Slot ℕ)) (t : Slot) (v : Value) → supply es t ≡ false → history (holds v) es t ≡ holds v
unfolding history supply any_of
stays [] t v e = refl
stays (d ∷ es) t v e = go (supplied (d.gives t)) refl e (stays es t v)
  where
    go : (b : Bool) → supplied (d.gives t) ≡ b → or b (supply es t) ≡ false → (supply es t ≡ false → history (holds v) es t ≡ holds v)
        → history (next (holds v) (d.gives t)) es t ≡ holds v
    go true p e ih = clash (sym e)
    go false p e ih = rw (kept v (d.gives t) p) (ih e)

-- OUTSIDE UNCHANGED: a slot that no entry of the text supplies has its starting value
pub outside_unchanged : (s : Sheet) (text : List ℕ) (st : At) (v : Values) (t : Slot)
    → history.annotate (records_of s) (values_of s) (said text st) ≡ sheet v → supply (file_events (records_of s) (said text st)) t ≡ false
    → v t ≡ values_of s t
outside_unchanged s text st v t e q = holds_inj (sym (((history-holds s text st v).0 e).1 t) ∙ stays (file_events (records_of s) (said text st)) t (values_of s t) q)

-- ONE OUTCOME: two outcomes that satisfy the contract, for the same input, are the same
pub one-outcome : (start : List ℕ) (c : Course) (u u1 u2 t t1 t2 out out1 out2 : List ℕ) (r1 r2 : Annotated) → AnnotateIs start c u u1 t t1 out out1 r1
    → AnnotateIs start c u u2 t t2 out out2 r2 → (r1 ≡ r2) × (u1 ≡ u2) × (t1 ≡ t2) × (out1 ≡ out2)
one-outcome start c u u1 u2 t t1 t2 out out1 out2 r1 r2 a b =
    (a.says ∙ sym b.says, a.cells ∙ sym b.cells, a.entries ∙ sym b.entries, a.sheet ∙ sym b.sheet)
