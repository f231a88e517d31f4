-- One entry of a cell, applied to the bytes of a sheet: it is refused as the history says, or leaves what the history leaves.
-- Assumes nothing.
use Rattle.std.specs.Prelude.{ℕ, ◌<◌, ◌≡◌, Bool, true, List, eqb}
use Rattle.std.proofs.Math.Path.{sym}
use Rattle.std.proofs.Common.{◌∙◌, subst}
use Rattle.classes.specs.Choice.{and}
use Rattle.wire.specs.Wire.{Bytes}
use Rattle.names.specs.Order.{same_text}
use Rattle.grammar.specs.Meaning.{Item}
use Rattle.sheetparts.specs.Form.{Good, check_of, path_at, type_at}
use Rattle.history.specs.Events.{step, final, any_of}
use Rattle.history.specs.Sheet.{Instance, Slot, Values, Entry, Cell, at, every, applies, matches, entry_event}
use Rattle.history.specs.Ranges.{InRange}
use Rattle.amounts.specs.Slots.{spelled, sheet_at}
use Rattle.amounts.specs.Spelled.{spelled_same}
use Rattle.applying.specs.Says.{entry_of}
use Rattle.applying.specs.Judged.{refusal_of, changed_at, arc_is, applied}
use Rattle.applying.specs.Bytes.{refusal_in, applied_in, refusal_every, applied_every}
use Rattle.applying.specs.Arcs.{Expanded}
use Rattle.applying.specs.Arcs as arcs
use Rattle.applying.specs.Instances.{Fine, ArcLaws, records_at, in_refusal, in_written}
use Rattle.applying.specs.Addressed.{place_of, one-refusal, one_applied}
use Rattle.applying.specs.Every.{every-refusal, every-written}

-- values that are the same in every slot
moved : (b : List ℕ) → Bytes b → (n m f : ℕ) → check_of b ≡ Good n m f → (out : List ℕ) (v w : Values) → ((t : Slot) → v t ≡ w t) → (out ≡ spelled (sheet_at b n m f) v) × Fine v
    → (out ≡ spelled (sheet_at b n m f) w) × Fine w
moved b bytes n m f good out v w e k = (k.0 ∙ spelled_same b bytes n m f good v w (λ t h. e t), λ t. subst InRange (e t) (k.1 t))

module _ (b : List ℕ) (bytes : Bytes b) (n m f : ℕ) (good : check_of b ≡ Good n m f) {Word : Type 0} where
  -- what an entry's list gives for one arc and for several
  pub arc_laws : (e : Entry Word) (rows : List (List ℕ)) (add : Bool) → Expanded e rows add → ArcLaws b n m f e rows add
  arc_laws e rows add x =
      record {
        arc-refusal = λ now fine j h. arcs.arc-refusal b bytes n m f good e rows add x now fine j h;
        arc-written = λ now fine j h z.
            (arcs.arc-written b bytes n m f good e rows add x now fine j h z, arcs.arc_in_range b bytes n m f good e rows add x now fine j h z);
        hits-refusal = λ now fine hit k h. arcs.hits-refusal b bytes n m f good e rows add x now fine hit k h;
        hits-written = λ now fine hit k h z.
            (arcs.hits-written b bytes n m f good e rows add x now fine hit k h z, arcs.hits_in_range b bytes n m f good e rows add x now fine hit k h z);
      }

  -- what the entry leaves in each slot
  abbrev pub after : Cell Word → Entry Word → Values → Values
  after c e now t = final (step (now t) ((entry_event (records_at b n m f) c e).gives t))

  module _ (text : List ℕ) (slash : Bool) (word : ℕ → Word) (i : Item) (rows : List (List ℕ))
      (x : Expanded (entry_of word text slash i) rows (eqb i.head.group 73)) (c : Cell Word) (now : Values) (fine : Fine now) where
    -- in the instance that the cell names
    module _ (k : ℕ) (h : k < n) (p : c.part ≡ at (path_at b (place_of b k))) (d : same_text (type_at b (place_of b k)) c.type ≡ true) where
      pub one-judged : refusal_in b text slash n m f i.head rows (spelled (sheet_at b n m f) now) (place_of b k)
          ≡ refusal_of (records_at b n m f) c (entry_of word text slash i) now
      one-judged =
          in_refusal b bytes n m f good text slash word i rows (arc_laws (entry_of word text slash i) rows _ x) (place_of b k) now fine
          ∙ sym (one-refusal b bytes n m f good c k h p d (entry_of word text slash i) now)

      pub one_left : refusal_in b text slash n m f i.head rows (spelled (sheet_at b n m f) now) (place_of b k) ≡ 0
          → (applied_in b text slash n m f i.head rows (spelled (sheet_at b n m f) now) (place_of b k)
          ≡ spelled (sheet_at b n m f) (after c (entry_of word text slash i) now)) × Fine (after c (entry_of word text slash i) now)
      unfolding applied_in changed_at
      one_left z =
          rw z (moved b bytes n m f good _ _ _ (λ t. sym (applied (records_at b n m f) now c (entry_of word text slash i) t ∙ same t))
          (in_written b bytes n m f good text slash word i rows (arc_laws (entry_of word text slash i) rows _ x) (place_of b k) now fine z))
        where
          same : (t : Slot) → changed_at (entry_of word text slash i) (λ (j : ℕ). any_of (λ (y : Instance). and (applies c y)
              (arc_is (records_at b n m f) (matches y.path (entry_of word text slash i)) j)) (records_at b n m f).instances) now t
              ≡ changed_at (entry_of word text slash i) (arc_is (records_at b n m f) (matches (path_at b (place_of b k)) (entry_of word text slash i))) now t
          same t = rw (one_applied b bytes n m f good c k h p d (entry_of word text slash i) t.arc)

    -- in every instance of the cell's type
    pub every-judged : c.part ≡ every → refusal_every b text slash n m f i.head rows (spelled (sheet_at b n m f) now) c.type
        ≡ refusal_of (records_at b n m f) c (entry_of word text slash i) now
    every-judged p = every-refusal b bytes n m f good text slash word i rows (arc_laws (entry_of word text slash i) rows _ x) c p now fine

    pub every-left : c.part ≡ every → refusal_every b text slash n m f i.head rows (spelled (sheet_at b n m f) now) c.type ≡ 0
        → (applied_every b text slash n m f i.head rows (spelled (sheet_at b n m f) now) c.type
        ≡ spelled (sheet_at b n m f) (after c (entry_of word text slash i) now)) × Fine (after c (entry_of word text slash i) now)
    unfolding applied_every
    every-left p z =
        rw z (moved b bytes n m f good _ _ _ (λ t. sym (applied (records_at b n m f) now c (entry_of word text slash i) t))
        (every-written b bytes n m f good text slash word i rows (arc_laws (entry_of word text slash i) rows _ x) c p now fine z))
