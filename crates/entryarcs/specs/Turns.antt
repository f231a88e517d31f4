-- One turn of each loop over arcs or instances: with one that passes the test, and with one that does not.
-- Assumes nothing.
use Rattle.std.specs.Prelude.{ℕ, ◌+◌, ◌≤◌, ◌<◌, ◌≡◌, refl, Bool, true, false, List, eqb, length, Some}
use Rattle.std.proofs.Common.{sym, add-one}
use Rattle.classes.specs.Choice.{or}
use Rattle.names.specs.Order.{same_text}
use Rattle.sheetparts.specs.Form.{values_at, type_at}
use Rattle.sheetlaws.specs.Sheet.{ar_next, in_end, nth, place}
use Rattle.applying.specs.Search.{nth-next}
use Rattle.applying.specs.Find.{ArcsGood, InsGood, arc_there, in_there, arc-found}
use Rattle.grammar.specs.declared.Entry.{Entry}
use Rattle.applying.specs.Amounts.{lesser, arc_refusal, arc_written}
use Rattle.applying.specs.Bytes.{some_of, least_of, written_of, device_hit, arc_of, refusal_in, written_in}

or-true : (t : Bool) → or t true ≡ true
or-true true = refl
or-true false = refl

or-false : (t : Bool) → or t false ≡ t
or-false true = refl
or-false false = refl

module _ (hit : ℕ → Bool) (k : ℕ) where
  pub some_with : hit k ≡ true → true ≡ some_of hit (k + 1)
  unfolding some_of
  some_with h = rw (add-one, h, or-true)

  pub some_without : (s : Bool) → hit k ≡ false → s ≡ some_of hit k → s ≡ some_of hit (k + 1)
  unfolding some_of
  some_without s h e = rw (add-one, h, or-false, e)

  pub least_with : (refusal : ℕ → ℕ) (n l : ℕ) → hit k ≡ true → l ≡ least_of hit refusal k → n ≡ lesser l (refusal k)
      → n ≡ least_of hit refusal (k + 1)
  unfolding least_of
  least_with refusal n l h e g = rw (add-one, h, g, e)

  pub least_without : (refusal : ℕ → ℕ) (n : ℕ) → hit k ≡ false → n ≡ least_of hit refusal k → n ≡ least_of hit refusal (k + 1)
  unfolding least_of
  least_without refusal n h e = rw (add-one, h, e)

  pub written_with : (write : ℕ → List ℕ → List ℕ) (out now old : List ℕ) → hit k ≡ true → old ≡ written_of hit write out k → now ≡ write k old
      → now ≡ written_of hit write out (k + 1)
  unfolding written_of
  written_with write out now old h e g = rw (add-one, h, g, e)

  pub written_without : (write : ℕ → List ℕ → List ℕ) (out now : List ℕ) → hit k ≡ false → now ≡ written_of hit write out k
      → now ≡ written_of hit write out (k + 1)
  unfolding written_of
  written_without write out now h e = rw (add-one, h, e)

-- None of the three changes over a thing that is no hit.
pub some_same : (hit : ℕ → Bool) (k : ℕ) → hit k ≡ false → some_of hit (k + 1) ≡ some_of hit k
some_same hit k h = sym (some_without hit k _ h refl)

pub least-same : (hit : ℕ → Bool) (refusal : ℕ → ℕ) (k : ℕ) → hit k ≡ false → least_of hit refusal (k + 1) ≡ least_of hit refusal k
least-same hit refusal k h = sym (least_without hit k refusal _ h refl)

pub written_same : (hit : ℕ → Bool) (write : ℕ → List ℕ → List ℕ) (out : List ℕ) (k : ℕ) → hit k ≡ false
    → written_of hit write out (k + 1) ≡ written_of hit write out k
written_same hit write out k h = sym (written_without hit k write out _ h refl)

-- An arc, an instance on the way: it is there whole, and the next one.
module _ (b : List ℕ) (k f here : ℕ) where
  pub arc-whole : (m : ℕ) → ArcsGood b m f → k < m → here ≡ place b k f → ar_next b here ≤ length b
  arc-whole m g h e = rw e (arc_there b k m f h g).1

  pub arc-more : (next : ℕ) → here ≡ place b k f → next ≡ ar_next b here → next ≡ place b (k + 1) f
  arc-more next e g = rw (nth-next, ← e, g)

  pub instance-whole : (n : ℕ) → InsGood b n f → k < n → here ≡ nth (in_end b) k f → in_end b here ≤ length b
  instance-whole n g h e = rw e (in_there b k n f h g).1

  pub instance-more : (next : ℕ) → here ≡ nth (in_end b) k f → next ≡ in_end b here → next ≡ nth (in_end b) (k + 1) f
  instance-more next e g = rw (nth-next, ← e, g)

-- What DEVICE asks of, refuses at and writes to the k-th arc.
abbrev pub hits : (b text : List ℕ) (slash : Bool) (f : ℕ) (h : Entry) (p k : ℕ) → Bool
hits b text slash f h p k = device_hit b text slash h p (place b k f)

abbrev pub refuses : (b out : List ℕ) (f : ℕ) (h : Entry) (rows : List (List ℕ)) (k : ℕ) → ℕ
refuses b out f h rows k = arc_refusal out (values_at b (place b k f)) rows (eqb h.group 73) 18

abbrev pub writes : (b : List ℕ) (f : ℕ) (h : Entry) (rows : List (List ℕ)) (k : ℕ) → List ℕ → List ℕ
writes b f h rows k out = arc_written out (values_at b (place b k f)) rows (eqb h.group 73) 18

pub hit-is : (b text : List ℕ) (slash : Bool) (f : ℕ) (h : Entry) (p k here : ℕ) (r : Bool) → here ≡ place b k f
    → r ≡ device_hit b text slash h p here → hits b text slash f h p k ≡ r
hit-is b text slash f h p k here r e d = rw (← e, ← d)

-- The arc that any other entry means is one of the sheet, and so there whole.
pub found-whole : (b text : List ℕ) (slash : Bool) (m f : ℕ) (h : Entry) (p q : ℕ) → ArcsGood b m f → arc_of b text slash m f h p ≡ Some q
    → ar_next b q ≤ length b
unfolding arc_of
found-whole b text slash m f h p q g e = let a = arc-found b _ m f q e in rw a.2 (arc_there b a.0 m f a.1 g).1

-- Whether the k-th instance is of a type, and what an entry meets and writes there.
abbrev pub typed : (b type : List ℕ) (k : ℕ) → Bool
typed b type k = same_text (type_at b (nth (in_end b) k 12)) type

pub type-is : (b type : List ℕ) (k here : ℕ) (r : Bool) → here ≡ nth (in_end b) k 12 → r ≡ same_text (type_at b here) type → typed b type k ≡ r
type-is b type k here r e d = rw (← e, ← d)

module _ (b text : List ℕ) (slash : Bool) (n m f : ℕ) (h : Entry) (rows : List (List ℕ)) where
  abbrev pub refuses_in : (out : List ℕ) (k : ℕ) → ℕ
  refuses_in out k = refusal_in b text slash n m f h rows out (nth (in_end b) k 12)

  abbrev pub writes_in : (k : ℕ) → List ℕ → List ℕ
  writes_in k out = written_in b text slash n m f h rows out (nth (in_end b) k 12)
