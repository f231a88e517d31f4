-- Patching, as a program does it: decide slot by slot, then write.
-- Assumes nothing.
use Rattle.std.specs.Prelude.{◌≡◌, ◌⊎◌, ℕ, ◌<◌, length}
use Rattle.std.proofs.Math.Path.{refl}
use Rattle.std.proofs.Common.{sym, ap, ◌∙◌, arith}
use mathlib.Core.List.Memᴰ
use mathlib.Core.List.{List, [], ◌∷◌, Memᴰ}
use Rattle.std.proofs.Math.Option.{Option, none, some}
use Rattle.std.proofs.Math.Logic.{⊎_elim}
use Rattle.classes.specs.Choice.{pick}
use Rattle.history.specs.Events.{holds, final, Event, refused, history, lenient, affected, patched}
use Rattle.history.specs.Sheet.{Records, Slot, Values, Cell, Cut, cut, each, events, file_events, slots_of, patch_cut, patch}
use Rattle.history.specs.BySlots.{new_events}
use Rattle.history.proofs.SheetLaws.{cut-some, own_low}
use Rattle.history.specs.Scan.{own_fault}
use Rattle.history.proofs.Scan.{fault_answer, scan, scan-is-outcome}
use Rattle.history.proofs.EventLaws.{none≢some}

pub lenient_own : {Slot Word : Type 0} (es : List (Event Slot Word)) (e : Event Slot Word) → Memᴰ e (lenient es) → e.own ≡ none
unfolding lenient
lenient_own [] e m = absurd (Memᴰ.not-nil m)
lenient_own {Slot} {Word} (d ∷ more) e m = ⊎_elim (λ p. ap (λ (x : Event Slot Word). x.own) p) (lenient_own more e) (Memᴰ.cases_cons m)

module _ (records : Records) {Word : Type 0} where
  pub new_low : (p : Cut (Cell Word)) (incoming : Cell Word) (e : Event Slot Word) → Memᴰ e (new_events records p incoming) → (k : ℕ) → e.own ≡ some k
      → k < 15
  unfolding new_events file_events each
  new_low p incoming e m k q = ⊎_elim (other p.before) (λ x. ⊎_elim own (other p.after) (Memᴰ.append_cases (events records incoming) x))
      (Memᴰ.append_cases (lenient (file_events records p.before)) m)
    where
      other : (l : List (Cell Word)) → Memᴰ e (lenient (file_events records l)) → k < 15
      other l x = absurd (none≢some (sym (lenient_own (file_events records l) e x) ∙ q))

      own : Memᴰ e (events records incoming) → k < 15
      own x = own_low records (incoming ∷ []) e (Memᴰ.append_left [] x) k q

  -- decide: the least fault of the affected slots and of the incoming cell's own; write: each affected slot its history
  pub patch-by-slots : (start : Values) (cells : List (Cell Word)) (k : ℕ) (origin : Word) (incoming : Cell Word) (current : Values)
      (p : Cut (Cell Word)) → cut cells k ≡ some p
      → patch records start cells k origin incoming current
      ≡ fault_answer (new_events records p incoming)
      (λ s. pick (affected (events records p.one) (events records incoming) s) (final (history (holds (start s)) (new_events records p incoming) s))
      (current s))
      (scan (affected (events records p.one) (events records incoming)) start (new_events records p incoming) (own_fault (new_events records p incoming))
      (slots_of records))
  unfolding patch patch_cut patched new_events
  patch-by-slots start cells k origin incoming current p e = rw e
      (sym (scan-is-outcome (slots_of records) _ start _ (new_events records p incoming) (new_low p incoming)))

  -- 17 exactly when the number is 0 or beyond the last
  pub patch_17 : (start : Values) (cells : List (Cell Word)) (k : ℕ) (origin : Word) (incoming : Cell Word) (current : Values)
      → (k ≡ 0) ⊎ (length cells < k) → patch records start cells k origin incoming current ≡ refused 17 origin
  unfolding patch patch_cut
  patch_17 start cells k origin incoming current h = go (cut cells k) refl
    where
      go : (o : Option (Cut (Cell Word))) → cut cells k ≡ o → patch_cut records start o origin incoming current ≡ refused 17 origin
      go none q = refl
      go (some p) q = let z = cut-some cells k p q in absurd (⊎_elim (λ x. omega arith) (λ x. omega arith) h)
