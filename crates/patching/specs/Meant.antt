-- Whether an entry of a cell means a given arc, asked arc by arc: bytes against history.
-- Assumes nothing.
use Prim.Native.Nat.{ℕ, ◌<◌}
use Rattle.std.specs.Prelude.{◌≡◌}
use Rattle.std.proofs.Math.Path.{refl, sym}
use Rattle.std.proofs.Common.{ap, ◌∙◌, arith, eqb-true, eq-eqb, le-ltb}
use Rattle.std.proofs.Math.Bool.{Bool, true, false}
use mathlib.Core.List.{List, [], ◌∷◌, ◌++◌}
use Rattle.std.proofs.Math.Option.{Option, none, some}
use Rattle.std.proofs.Math.Dec.{eqb}
use Rattle.classes.specs.Choice.{pick, and, or}
use Rattle.wire.specs.Wire.{Bytes}
use Rattle.names.specs.Order.{same_text, front, front-nil}
use Rattle.names.specs.Name.{canon, full, same_name, last_of, one_below, part_of, both}
use Rattle.names.specs.Laws.{name_exactly}
use Rattle.sheetparts.specs.Form.{Good, key_at, path_at, type_at, cmp_key, check_of}
use Rattle.sheetlaws.specs.Sheet.{in_end, nth, place}
use Rattle.applying.specs.Find.{wanted, key_order, key-same}
use Rattle.grammar.specs.declared.Entry as read-entry
use Rattle.grammar.specs.declared.Cell as read_cell
use Rattle.grammar.specs.Meaning.{Item}
use Rattle.history.specs.Sheet.{Instance, Key, Records, Values, Entry, Cell, at, every, end_name, ends_at, matches, part_is, applies, addresses, lacks, cell_number}
use Rattle.history.proofs.Addressing.{matches-key}
use Rattle.history.specs.Events.{any_of}
use Rattle.history.proofs.EventLaws.{clash, any_none, any_false, none≢some}
use Rattle.applying.specs.Slots.{as_key}
use Rattle.applying.specs.Laws.{first_of}
use Rattle.applying.specs.Says.{name_at, entry_of, part_at, cell_of}
use Rattle.applying.specs.Judged.{arc_is, fails_at, refusal_of, arc_addressed}
use Rattle.applying.specs.Bytes.{some_of, device_hit}
use Rattle.applying.specs.Below.{bool_same, not_so, or-all, below_cong, some_any}
use Rattle.applying.specs.Instances.{records_at, wants, wants-means, means-wants, arc-is, hit-is}
use Rattle.applying.specs.Addressed.{place_of, one_applied, every_of}

module _ (b text : List ℕ) (slash : Bool) (h : read-entry.Entry) where
  -- the entry h, applied to the instance at p, means the arc at q
  unfoldable pub meant_in : ℕ → ℕ → Bool
  meant_in p q =
      pick (eqb h.kind 4) (device_hit b text slash h p q)
      (eqb (cmp_key (key_at b q)
      (wanted slash h.kind h.edge1 h.edge2 (path_at b p) (part_of text h.from1 h.to1) (part_of text h.from2 h.to2))) 1)

  -- in some instance of a type, among n
  unfoldable pub meant_every : ℕ → List ℕ → ℕ → Bool
  meant_every n type q = some_of (λ k. and (same_text (type_at b (nth (in_end b) k 12)) type) (meant_in (nth (in_end b) k 12) q)) n

-- A cell with a path may mean the arc at q only if the path is a front part of the arc's first end or of its second.
unfoldable pub may_touch : (b text : List ℕ) (slash : Bool) (from to q : ℕ) → Bool
may_touch b text slash from to q =
    or (eqb (front (key_at b q).first (canon slash (part_of text from to))) 1) (eqb (front (key_at b q).second (canon slash (part_of text from to))) 1)

-- A full name has its path as a front part.

front-append : (p z : List ℕ) → front (p ++ z) p ≡ 1
unfolding front
front-append [] z = front-nil z
front-append (c ∷ r) z = rw (le-ltb c c (omega arith)) (front-append r z)

front-full : (p x : List ℕ) → front (full p x) p ≡ 1
unfolding full
front-full [] x = front-nil x
front-full (c ∷ r) x = front-append (c ∷ r) (46 ∷ x)

-- Any records.

-- the first of three that applies is 14 exactly if the first does
first_14 : (x y z : Bool) → eqb (first_of x y z) 14 ≡ x
unfolding first_of
first_14 true y z = refl
first_14 false true z = refl
first_14 false false true = refl
first_14 false false false = refl

module _ (records : Records) {Word : Type 0} (c : Cell Word) (e : Entry Word) where
  -- 'Another cell that 12 or 13 would refuse supplies nothing': no instance applies, so it means no arc
  pub meant-none : (x : ℕ) → cell_number records c ≡ some x → (j : ℕ) → arc_is records (addresses records c e) j ≡ false
  unfolding cell_number
  meant-none x q j =
      arc_addressed records c e j
      ∙ any_none _ records.instances (λ y l. rw (any_false (applies c) records.instances y (go (any_of (applies c) records.instances) _ q) l))
    where
      go : (t : Bool) (o : Option ℕ) → pick t none o ≡ some x → t ≡ false
      go true o z = absurd (none≢some z)
      go false o z = refl

  -- 'some addressed instance lacks the arc': the refusal is 14 there and nowhere else
  pub refused_lacks : (now : Values) → eqb (refusal_of records c e now) 14 ≡ lacks records c e
  unfolding refusal_of
  refused_lacks now = first_14 (lacks records c e) (fails 15) (fails 16)
    where
      fails : ℕ → Bool
      fails x = any_of (λ (y : Instance). and (applies c y) (fails_at records y.path e x now)) records.instances

-- A sheet that was checked.

module _ (b : List ℕ) (bytes : Bytes b) (n m f : ℕ) (good : check_of b ≡ Good n m f) (text : List ℕ) (slash : Bool) {Word : Type 0} (word : ℕ → Word)
    (i : Item) where
  -- the entry as the history has it
  abbrev pub e : Entry Word
  e = entry_of word text slash i

  -- what the program asks of an arc is whether the entry means it in that instance
  pub meant_is : (p j : ℕ) → j < m → meant_in b text slash i.head p (place b j f) ≡ arc_is (records_at b n m f) (matches (path_at b p) e) j
  unfolding meant_in
  meant_is p j h = go (eqb i.head.kind 4) refl
    where
      key-is : eqb i.head.kind 4 ≡ false → eqb (cmp_key (key_at b (place b j f)) (wants text slash word i (path_at b p))) 1
          ≡ matches (path_at b p) e (as_key (key_at b (place b j f)))
      key-is d =
          bool_same _ _
          (λ x. rw (key-same (key_at b (place b j f)) (wants text slash word i (path_at b p)) (eqb-true _ _ x)) (wants-means text slash word i (path_at b p) d))
          (λ x. rw (means-wants text slash word i (path_at b p) (key_at b (place b j f)) d x) (eq-eqb _ _ (key_order.self (wants text slash word i (path_at b p)))))

      go : (t : Bool) → eqb i.head.kind 4 ≡ t
          → pick t (device_hit b text slash i.head p (place b j f))
          (eqb (cmp_key (key_at b (place b j f)) (wants text slash word i (path_at b p))) 1)
          ≡ arc_is (records_at b n m f) (matches (path_at b p) e) j
      go true d = hit-is b bytes n m f good text slash word i [] p j h d
      go false d = key-is d ∙ sym (arc-is b bytes n m f good (matches (path_at b p) e) j h)

  module _ (c : Cell Word) where
    -- a cell with the path of instance number k and its type means what it means there
    pub meant-one : (k : ℕ) → k < n → c.part ≡ at (path_at b (place_of b k)) → same_text (type_at b (place_of b k)) c.type ≡ true → (j : ℕ) → j < m
        → meant_in b text slash i.head (place_of b k) (place b j f) ≡ arc_is (records_at b n m f) (addresses (records_at b n m f) c e) j
    meant-one k l p d j h =
        meant_is (place_of b k) j h ∙ sym (one_applied b bytes n m f good c k l p d e j) ∙ sym (arc_addressed (records_at b n m f) c e j)

    -- `*` means what it means in some instance of its type
    pub meant-every : c.part ≡ every → (j : ℕ) → j < m
        → meant_every b text slash i.head n c.type (place b j f) ≡ arc_is (records_at b n m f) (addresses (records_at b n m f) c e) j
    unfolding meant_every
    meant-every p j h =
        some_any _ n
        ∙ below_cong (λ k. and (same_text (type_at b (place_of b k)) c.type) (meant_in b text slash i.head (place_of b k) (place b j f)))
        (λ k. and (same_text (type_at b (place_of b k)) c.type) (arc_is (records_at b n m f) (matches (path_at b (place_of b k)) e) j)) n
        (λ k l. rw (meant_is (place_of b k) j h))
        ∙ sym (every_of b bytes n m f good c p (λ x. arc_is (records_at b n m f) (matches x e) j))
        ∙ sym (arc_addressed (records_at b n m f) c e j)

  -- an arc that the entry means in the instance with this path has the path as a front part of an end
  front-means : (p : List ℕ) (k : Key) → matches p e k ≡ true → or (eqb (front k.end1 p) 1) (eqb (front k.end2 p) 1) ≡ true
  unfolding matches entry_of ends_at end_name one_below
  front-means p k = by (eqb i.head.kind 4) refl
    where
      at_front : (name x : List ℕ) → same_name name (full p x) ≡ true → eqb (front name p) 1 ≡ true
      at_front name x z = rw ((name_exactly name (full p x)).0 z, front-full p x)

      ends : (t : Bool) (name : List ℕ) → ends_at p (pick t none (some name)) k.end2 ≡ true → eqb (front k.end2 p) 1 ≡ true
      ends true name z = at_front k.end2 (last_of k.end2) z
      ends false name z = at_front k.end2 name z

      by : (t : Bool) → eqb i.head.kind 4 ≡ t → matches p e k ≡ true → or (eqb (front k.end1 p) 1) (eqb (front k.end2 p) 1) ≡ true
      by true d z =
          rw (ends (eqb i.head.to1 0) (name_at word text slash i.head.from1 i.head.to1) (both (eqb k.kind 1) _ (rw d at z)).1)
          (or-all (eqb (front k.end1 p) 1))
      by false d z =
          let x = rw d at (ap (λ (y : Key). y.end1) (matches-key p e k d z)) in
          rw (x, front-full p (name_at word text slash i.head.from1 i.head.to1))

  -- so a cell with another path does not mean it
  pub may_touch_lem : (cell : read_cell.Cell) (l : List Item) → eqb cell.sort 2 ≡ false → (j : ℕ)
      → may_touch b text slash cell.pathfrom cell.pathto (place b j f) ≡ false → j < m
      → arc_is (records_at b n m f) (addresses (records_at b n m f) (cell_of word text slash cell l) e) j ≡ false
  unfolding may_touch cell_of part_at name_at applies part_is as_key
  may_touch_lem cell l s j z h =
      arc_addressed (records_at b n m f) (cell_of word text slash cell l) e j
      ∙ any_none _ (records_at b n m f).instances (λ y g. not_so _ (λ q. none_so y q))
    where
      path : List ℕ
      path = canon slash (part_of text cell.pathfrom cell.pathto)

      there : (y : Instance) → applies (cell_of word text slash cell l) y ≡ true → y.path ≡ path
      there y q = (name_exactly y.path path).0 (both (same_name y.path path) _ (rw s at q)).0

      none_so : (y : Instance) → and (applies (cell_of word text slash cell l) y) (arc_is (records_at b n m f) (matches y.path e) j) ≡ true → ⊥
      none_so y q =
          let w = both (applies (cell_of word text slash cell l) y) _ q in
          clash (sym z ∙ front-means path (as_key (key_at b (place b j f)))
          (rw (there y w.0) at (sym (arc-is b bytes n m f good (matches y.path e) j h) ∙ w.1)))
