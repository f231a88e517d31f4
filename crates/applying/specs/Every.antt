-- What an entry of a cell for every instance of its type does in all of them: bytes against history.
-- Assumes nothing.
use Prim.Native.Nat.{ℕ, zero, suc, ◌<◌, ◌≤◌}
use Rattle.std.specs.Prelude.{◌≡◌, Bool, List, eqb, ltb, length}
use Rattle.std.proofs.Math.Path.{refl, fun_ext}
use Rattle.std.proofs.Common.{sym, ◌∙◌, arith, ltb-true, ltb-false}
use Rattle.std.proofs.Math.Bool.{true, false, not}
use Rattle.std.proofs.Math.Option.{none, some}
use Rattle.classes.specs.Choice.{pick, and, or}
use Rattle.wire.specs.Wire.{Bytes}
use Rattle.names.specs.Order.{same_text}
use Rattle.names.specs.Name.{one_below, both}
use Rattle.names.specs.Laws.{name_exactly, path_determined}
use Rattle.sheetparts.specs.Form.{Good, key_at, path_at, type_at, check_of}
use Rattle.sheetlaws.specs.Sheet.{place}
use Rattle.grammar.specs.Meaning.{Item}
use Rattle.history.specs.Events.{any_of, final, step}
use Rattle.history.proofs.EventLaws.{clash}
use Rattle.history.specs.Sheet.{Instance, Key, Slot, Values, Entry, at, every, Cell, applies, lacks, ends_at, matches, below, arc_slots, each}
use Rattle.history.proofs.Addressing.{matches-path}
use Rattle.amounts.specs.Slots.{as_key, spelled, sheet_at}
use Rattle.amounts.specs.FoundSlots.{instance_once}
use Rattle.amounts.specs.Amounts.{lesser}
use Rattle.applying.specs.Says.{name_at, entry_of}
use Rattle.applying.specs.Judged.{any_below, supply, arc_fails, changed_at, arc_is, fails_at, refusal_at, refusal_of}
use Rattle.applying.specs.Bytes.{least_of, written_of, refusal_in, written_in, refusal_every, written_every}
use Rattle.applying.specs.Below.{not_so, and_none, or-none, below_cong, below_none, least_first, lesser-none}
use Rattle.applying.specs.Instances.{records_at, Fine, ArcLaws, arc-is, arc-past, in_refusal, in_written}
use Rattle.applying.specs.Addressed.{place_of, every_of}

-- An entry means an arc through one instance only.

pub matches-one : (text : List ℕ) (slash : Bool) {Word : Type 0} (word : ℕ → Word) (i : Item) (p q : List ℕ) (k : Key)
    → matches p (entry_of word text slash i) k ≡ true → matches q (entry_of word text slash i) k ≡ true → p ≡ q
unfolding matches entry_of ends_at one_below
matches-one text slash {Word} word i p q k = by (eqb i.head.kind 4) refl
  where
    e : Entry Word
    e = entry_of word text slash i

    ends : (t : Bool) (name : List ℕ) → ends_at p (pick t none (some name)) k.end2 ≡ true
        → ends_at q (pick t none (some name)) k.end2 ≡ true → p ≡ q
    ends true name x y = path_determined p q _ (sym ((name_exactly _ _).0 x) ∙ (name_exactly _ _).0 y)
    ends false name x y = path_determined p q name (sym ((name_exactly _ _).0 x) ∙ (name_exactly _ _).0 y)

    by : (t : Bool) → eqb i.head.kind 4 ≡ t → matches p e k ≡ true → matches q e k ≡ true → p ≡ q
    by true d x y =
        ends (eqb i.head.to1 0) (name_at word text slash i.head.from1 i.head.to1)
        (both (eqb k.kind 1) _ (rw d at x)).1 (both (eqb k.kind 1) _ (rw d at y)).1
    by false d x y = matches-path p q e k (name_at word text slash i.head.from1 i.head.to1) d (rw d) x y

-- What is changed elsewhere does not count here.

module _ {Word : Type 0} (e : Entry Word) where
  -- arcs whose values stay fail as before
  fails_kept : (x : ℕ) (hit : ℕ → Bool) (now : Values) (j : ℕ) → hit j ≡ false → arc_fails e x (changed_at e hit now) j ≡ arc_fails e x now j
  unfolding arc_fails arc_slots each any_of changed_at
  fails_kept x hit now j h = rw h

  -- changed in two steps, no arc twice
  changed-twice : (g h : ℕ → Bool) (now : Values) → ((j : ℕ) → h j ≡ true → g j ≡ false)
      → changed_at e h (changed_at e g now) ≡ changed_at e (λ j. or (g j) (h j)) now
  unfolding changed_at
  changed-twice g h now apart = fun_ext (λ (t : Slot). by t (g t.arc) refl (h t.arc) refl)
    where
      by : (t : Slot) (x : Bool) → g t.arc ≡ x → (y : Bool) → h t.arc ≡ y
          → pick y (final (step (pick x (final (step (now t) (supply e t))) (now t)) (supply e t))) (pick x (final (step (now t) (supply e t))) (now t))
          ≡ pick (or x y) (final (step (now t) (supply e t))) (now t)
      by t true p true q = clash (sym (apart t.arc q) ∙ p)
      by t true p false q = refl
      by t false p true q = refl
      by t false p false q = refl

-- All instances of a type.

module _ (b : List ℕ) (bytes : Bytes b) (n m f : ℕ) (good : check_of b ≡ Good n m f) (text : List ℕ) (slash : Bool) {Word : Type 0} (word : ℕ → Word)
    (i : Item) (rows : List (List ℕ)) (laws : ArcLaws b n m f (entry_of word text slash i) rows (eqb i.head.group 73)) where
  abbrev pub e : Entry Word
  e = entry_of word text slash i

  -- the sheet with these values
  abbrev pub bytes_of : Values → List ℕ
  bytes_of now = spelled (sheet_at b n m f) now

  -- the refusal and what is written in instance number k, and whether it is of this type
  abbrev refuses : Values → ℕ → ℕ
  refuses now k = refusal_in b text slash n m f i.head rows (bytes_of now) (place_of b k)

  abbrev writes : ℕ → List ℕ → List ℕ
  writes k out = written_in b text slash n m f i.head rows out (place_of b k)

  abbrev of_type : List ℕ → ℕ → Bool
  of_type type k = same_text (type_at b (place_of b k)) type

  -- the entry means arc j in instance number k
  abbrev hits : ℕ → ℕ → Bool
  hits k j = arc_is (records_at b n m f) (matches (path_at b (place_of b k)) e) j

  once : (k l j : ℕ) → k < n → l < n → hits k j ≡ true → hits l j ≡ true → k ≡ l
  once k l j h g x y = by (ltb j m) refl
    where
      by : (t : Bool) → ltb j m ≡ t → k ≡ l
      by true z =
          let r = ltb-true j m z in
          instance_once b bytes n m f good k l h g
          (matches-one text slash word i _ _ (as_key (key_at b (place b j f)))
          (rw (arc-is b bytes n m f good (matches (path_at b (place_of b k)) e) j r) at x)
          (rw (arc-is b bytes n m f good (matches (path_at b (place_of b l)) e) j r) at y))
      by false z = clash (sym (arc-past b bytes n m f good (matches (path_at b (place_of b k)) e) j (ltb-false j m z)) ∙ x)

  -- what is refused in all instances of the cell's type is what the history refuses
  pub every-refusal : (c : Cell Word) → c.part ≡ every → (now : Values) → Fine now
      → refusal_every b text slash n m f i.head rows (bytes_of now) c.type
      ≡ refusal_of (records_at b n m f) c e now
  unfolding refusal_every refusal_of refusal_at lacks
  every-refusal c p now fine =
      least_first (of_type c.type) (λ k. not (any_of (matches (path_at b (place_of b k)) e) (records_at b n m f).arcs))
      (λ k. fails_at (records_at b n m f) (path_at b (place_of b k)) e 15 now) (λ k. fails_at (records_at b n m f) (path_at b (place_of b k)) e 16 now)
      (refuses now) n
      (λ k h. in_refusal b bytes n m f good text slash word i rows laws (place_of b k) now fine)
      ∙ rw (
        every_of b bytes n m f good c p (λ x. not (any_of (matches x e) (records_at b n m f).arcs)),
        every_of b bytes n m f good c p (λ x. fails_at (records_at b n m f) x e 15 now),
        every_of b bytes n m f good c p (λ x. fails_at (records_at b n m f) x e 16 now),
      )

  -- the arcs that it means in the instances of this type among the first k
  abbrev upto : List ℕ → ℕ → ℕ → Bool
  upto type k j = any_of (λ l. and (of_type type l) (hits l j)) (below k)

  upto_next : (type : List ℕ) (k : ℕ) → upto type (suc k) ≡ (λ j. or (upto type k j) (and (of_type type k) (hits k j)))
  upto_next type k = fun_ext (λ j. any_below (λ l. and (of_type type l) (hits l j)) k)

  -- an arc of instance number k is none of those before
  elsewhere : (type : List ℕ) (k j : ℕ) → k < n → hits k j ≡ true → upto type k j ≡ false
  elsewhere type k j h x =
      below_none (λ l. and (of_type type l) (hits l j)) k
      (λ l r. rw (not_so (hits l j) (λ y. let z = once l k j (omega arith) h y x in omega arith)) (and_none (of_type type l)))

  -- so what was changed there refuses nothing here
  kept : (type : List ℕ) (k : ℕ) → k < n → (now : Values)
      → refusal_at (records_at b n m f) (path_at b (place_of b k)) e (changed_at e (upto type k) now)
      ≡ refusal_at (records_at b n m f) (path_at b (place_of b k)) e now
  unfolding refusal_at fails_at
  kept type k h now =
      rw (
        below_cong (λ j. and (hits k j) (arc_fails e 15 (changed_at e (upto type k) now) j)) (λ j. and (hits k j) (arc_fails e 15 now j))
            (length (records_at b n m f).arcs) (λ j r. by 15 j (hits k j) refl),
        below_cong (λ j. and (hits k j) (arc_fails e 16 (changed_at e (upto type k) now) j)) (λ j. and (hits k j) (arc_fails e 16 now j))
            (length (records_at b n m f).arcs) (λ j r. by 16 j (hits k j) refl),
      )
    where
      by : (x j : ℕ) (t : Bool) → hits k j ≡ t → and t (arc_fails e x (changed_at e (upto type k) now) j)
          ≡ and t (arc_fails e x now j)
      by x j true z = fails_kept e x (upto type k) now j (elsewhere type k j h z)
      by x j false z = refl

  -- one instance more
  next-written : (type : List ℕ) (k : ℕ) → k < n → (now : Values) → Fine now → Fine (changed_at e (upto type k) now)
      → refuses now k ≡ 0
      → (writes k (bytes_of (changed_at e (upto type k) now))
      ≡ bytes_of (changed_at e (λ j. or (upto type k j) (hits k j)) now))
      × Fine (changed_at e (λ j. or (upto type k j) (hits k j)) now)
  next-written type k h now fine then z =
      let p = place_of b k in
      let now' = changed_at e (upto type k) now in
      let r = in_refusal b bytes n m f good text slash word i rows laws p now' then ∙ kept type k h now
      ∙ sym (in_refusal b bytes n m f good text slash word i rows laws p now fine) ∙ z in
      rw (changed-twice e (upto type k) (hits k) now (λ j x. elsewhere type k j h x)) at
      (in_written b bytes n m f good text slash word i rows laws p now' then r)

  -- in none
  none_written : (type : List ℕ) (now : Values) → changed_at e (upto type 0) now ≡ now
  unfolding changed_at below any_of
  none_written type now = refl

  -- in those of the first k
  walk : (type : List ℕ) (now : Values) → Fine now → (k : ℕ) → k ≤ n
      → least_of (of_type type) (refuses now) k ≡ 0
      → (written_of (of_type type) writes (bytes_of now) k
      ≡ bytes_of (changed_at e (upto type k) now))
      × Fine (changed_at e (upto type k) now)
  unfolding least_of written_of
  walk type now fine zero h z = rw (none_written type now) (refl, fine)
  walk type now fine (suc k) h z =
      rw (upto_next type k) (by (of_type type k) (walk type now fine k (omega arith)) z)
    where
      least : ℕ
      least = least_of (of_type type) (refuses now) k

      written : List ℕ
      written = written_of (of_type type) writes (bytes_of now) k

      by : (t : Bool)
          → (least ≡ 0 → (written ≡ bytes_of (changed_at e (upto type k) now)) × Fine (changed_at e (upto type k) now))
          → pick t (lesser least (refuses now k)) least ≡ 0
          → (pick t (writes k written) written
          ≡ bytes_of (changed_at e (λ j. or (upto type k j) (and t (hits k j))) now))
          × Fine (changed_at e (λ j. or (upto type k j) (and t (hits k j))) now)
      by true ih q =
          let w = lesser-none least (refuses now k) q in
          let y = ih w.0 in
          rw y.0 (next-written type k (omega arith) now fine y.1 w.1)
      by false ih q =
          let same : (λ j. or (upto type k j) false) ≡ upto type k = fun_ext (λ j. or-none (upto type k j)) in
          rw same (ih q)

  -- where nothing is refused, what is written in all instances of the cell's type is what the history leaves
  pub every-written : (c : Cell Word) → c.part ≡ every → (now : Values) → Fine now
      → refusal_every b text slash n m f i.head rows (bytes_of now) c.type ≡ 0
      → (written_every b text slash n m f i.head rows (bytes_of now) c.type
      ≡ bytes_of (changed_at e
      (λ j. any_of (λ (x : Instance). and (applies c x) (arc_is (records_at b n m f) (matches x.path e) j))
      (records_at b n m f).instances) now))
      × Fine (changed_at e
      (λ j. any_of (λ (x : Instance). and (applies c x) (arc_is (records_at b n m f) (matches x.path e) j))
      (records_at b n m f).instances) now)
  unfolding refusal_every written_every
  every-written c p now fine z =
      let same : (λ j. any_of (λ (x : Instance). and (applies c x) (arc_is (records_at b n m f) (matches x.path e) j)) (records_at b n m f).instances)
      ≡ upto c.type n
      = fun_ext (λ j. every_of b bytes n m f good c p (λ x. arc_is (records_at b n m f) (matches x e) j)) in
      rw same (walk c.type now fine n (omega arith) z)
