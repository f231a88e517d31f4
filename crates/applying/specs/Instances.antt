-- Which arcs an entry means in an instance, and what it does to them: bytes against history.
-- Assumes nothing.
use Rattle.std.specs.Prelude.{ℕ, ◌<◌, ◌≤◌, ◌≡◌, Bool, not, List, [], Option, Some, None}
use Rattle.std.proofs.Math.Path.{refl, sym, fun_ext}
use Rattle.std.proofs.Common.{ap, ◌∙◌, arith}
use Rattle.std.proofs.Math.Bool.{true, false}
use Rattle.std.proofs.Math.Option.{none, some}
use Rattle.std.proofs.Math.Dec.{eqb, ltb}
use borrow.Author.Tests.{eqb-true, eq-eqb, ne_eqb, ltb-true, ltb-false}
use Rattle.classes.specs.Choice.{pick, and}
use Rattle.wire.specs.Wire.{Bytes}
use Rattle.names.specs.Name.{canon, full, same_name, one_below, part_of}
use Rattle.names.specs.Laws.{same_self}
use Rattle.sheetparts.specs.Form.{Good, key_at, values_at, path_at, one_end, check_of}
use Rattle.sheetparts.specs.Form as form
use Rattle.sheetlaws.specs.Sheet.{place}
use Rattle.sheet.specs.Find.{second_wanted, wanted, arc-found, arc_absent}
use Rattle.grammar.specs.Meaning.{Item}
use Rattle.history.specs.Ranges.{InRange}
use Rattle.history.specs.Events.{any_of}
use Rattle.history.specs.Sheet.{Key, Records, Slot, Values, Entry, end_name, ends_at, matches, below}
use Rattle.history.proofs.Addressing.{matches-key}
use Rattle.amounts.specs.Slots.{as_key, records_of, spelled, sheet_at}
use Rattle.amounts.specs.FoundSlots.{arc-at, arcs_length, arc_once}
use Rattle.amounts.specs.Amounts.{arc_refusal, arc_written}
use Rattle.amounts.specs.Laws.{first_of}
use Rattle.applying.specs.Says.{name_at, entry_of}
use Rattle.applying.specs.Judged.{arc_fails, changed_at, key_is, arc_is, fails_at, refusal_at}
use Rattle.applying.specs.Bytes.{least_of, written_of, some_of, device_hit, arc_of, found_refusal, found_written, device_refusal, device_written, refusal_in, written_in}
use Rattle.applying.specs.Below.{bool_same, not_so, and-all, and_none, eqb_self, below_cong, below_none, below-some, below_one, any_at, past, some_any, first-none}

-- the records of a sheet that was checked
abbrev pub records_at : List ℕ → ℕ → ℕ → ℕ → Records
records_at b n m f = records_of (sheet_at b n m f)

-- values that a sheet may hold
abbrev pub Fine : Values → Type 0
Fine now = (t : Slot) → InRange (now t)

-- What one arc and several arcs are told of: what they refuse and what is written is what the history says.
pub record ArcLaws (b : List ℕ) (n m f : ℕ) {Word : Type 0} (e : Entry Word) (rows : List (List ℕ)) (add : Bool) : Type 0 where
  pub arc-refusal : (now : Values) → Fine now → (j : ℕ) → j < m
      → arc_refusal (spelled (sheet_at b n m f) now) (values_at b (place b j f)) rows add 18 ≡ first_of false (arc_fails e 15 now j) (arc_fails e 16 now j)
  pub arc-written : (now : Values) → Fine now → (j : ℕ) → j < m
      → arc_refusal (spelled (sheet_at b n m f) now) (values_at b (place b j f)) rows add 18 ≡ 0
      → (arc_written (spelled (sheet_at b n m f) now) (values_at b (place b j f)) rows add 18 ≡ spelled (sheet_at b n m f) (changed_at e (λ k. eqb k j) now))
      × Fine (changed_at e (λ k. eqb k j) now)
  pub hits-refusal : (now : Values) → Fine now → (hit : ℕ → Bool) (k : ℕ) → k ≤ m
      → least_of hit (λ j. arc_refusal (spelled (sheet_at b n m f) now) (values_at b (place b j f)) rows add 18) k
      ≡ first_of false (any_of (λ j. and (hit j) (arc_fails e 15 now j)) (below k)) (any_of (λ j. and (hit j) (arc_fails e 16 now j)) (below k))
  pub hits-written : (now : Values) → Fine now → (hit : ℕ → Bool) (k : ℕ) → k ≤ m
      → least_of hit (λ j. arc_refusal (spelled (sheet_at b n m f) now) (values_at b (place b j f)) rows add 18) k ≡ 0
      → (written_of hit (λ j o. arc_written o (values_at b (place b j f)) rows add 18) (spelled (sheet_at b n m f) now) k
      ≡ spelled (sheet_at b n m f) (changed_at e (λ j. and (hit j) (ltb j k)) now))
      × Fine (changed_at e (λ j. and (hit j) (ltb j k)) now)

alike : (k : form.Key) (kind edge edge2 : ℕ) (first second : List ℕ) → kind ≡ k.kind → first ≡ k.first → edge ≡ k.edge → second ≡ k.second
    → edge2 ≡ k.edge2 → k ≡ record { kind = kind; first = first; edge = edge; second = second; edge2 = edge2 }
alike k kind edge edge2 first second e1 e2 e3 e4 e5 = rw (e1, e2, e3, e4, e5)

-- The key that an entry wants, and the keys that it matches.

module _ (text : List ℕ) (slash : Bool) {Word : Type 0} (word : ℕ → Word) (i : Item) where
  abbrev pub entry : Entry Word
  entry = entry_of word text slash i

  -- the key that it wants in the instance with this path
  abbrev pub wants : List ℕ → form.Key
  wants path =
      wanted slash i.head.kind i.head.edge1 i.head.edge2 path (part_of text i.head.from1 i.head.to1)
      (part_of text i.head.from2 i.head.to2)

  -- DEVICE means an IOPATH that ends at its port, or just below the instance
  pub device-means : (path : List ℕ) (k : form.Key) → eqb i.head.kind 4 ≡ true
      → matches path entry (as_key k)
      ≡ and (eqb k.kind 1) (pick (eqb i.head.to1 0) (one_below path k.second)
      (same_name k.second (full path (canon slash (part_of text i.head.from1 i.head.to1)))))
  unfolding matches entry_of as_key name_at ends_at
  device-means path k d = rw d (go (eqb i.head.to1 0))
    where
      go : (t : Bool) → and (eqb k.kind 1) (ends_at path (pick t none (some (name_at word text slash i.head.from1 i.head.to1))) k.second)
          ≡ and (eqb k.kind 1) (pick t (one_below path k.second)
          (same_name k.second (full path (canon slash (part_of text i.head.from1 i.head.to1)))))
      go true = refl
      go false = refl

  -- the second name
  second_is : (path : List ℕ) (t : Bool) (name : List ℕ) → end_name path (pick t none (some name)) ≡ pick t [] (full path name)
  unfolding end_name
  second_is path true name = refl
  second_is path false name = refl

  -- any other means the arc with the key that it wants
  pub wants-means : (path : List ℕ) → eqb i.head.kind 4 ≡ false → matches path entry (as_key (wants path)) ≡ true
  unfolding matches entry_of as_key name_at end_name wanted second_wanted
  wants-means path d =
      rw (
        d,
        second_is path (one_end i.head.kind) (canon slash (part_of text i.head.from2 i.head.to2)),
        eqb_self i.head.kind,
        eqb_self i.head.edge1,
        eqb_self i.head.edge2,
        same_self,
        same_self,
      )

  pub means-wants : (path : List ℕ) (k : form.Key) → eqb i.head.kind 4 ≡ false → matches path entry (as_key k) ≡ true → k ≡ wants path
  unfolding entry_of as_key name_at end_name wanted second_wanted
  means-wants path k d e =
      let q = matches-key path entry (as_key k) d e in
      let x = rw d at (ap (λ (k : Key). k.end1) q) in
      let y = rw (second_is path (one_end i.head.kind) (canon slash (part_of text i.head.from2 i.head.to2))) at (ap (λ (k : Key). k.end2) q) in
      alike k _ _ _ _ _ (sym (ap (λ (k : Key). k.kind) q)) (sym x) (sym (ap (λ (k : Key). k.edge1) q)) (sym y) (sym (ap (λ (k : Key). k.edge2) q))

-- The arcs of a sheet that was checked, by their numbers.

module _ (b : List ℕ) (bytes : Bytes b) (n m f : ℕ) (good : check_of b ≡ Good n m f) where
  -- arc number j passes the test as its key does
  pub arc-is : (g : Key → Bool) (j : ℕ) → j < m → arc_is (records_at b n m f) g j ≡ g (as_key (key_at b (place b j f)))
  unfolding arc_is key_is
  arc-is g j h = rw (arc-at b bytes n m f good j h)

  -- behind the last there is none
  pub arc-past : (g : Key → Bool) (j : ℕ) → m ≤ j → arc_is (records_at b n m f) g j ≡ false
  unfolding arc_is key_is
  arc-past g j h = rw (past (records_at b n m f).arcs j (rw (arcs_length b bytes n m f good) h))

  -- some arc passes the test
  pub any_arc : (g : Key → Bool) → any_of g (records_at b n m f).arcs ≡ any_of (arc_is (records_at b n m f) g) (below m)
  any_arc g =
      any_at g (λ j. as_key (key_at b (place b j f))) (records_at b n m f).arcs
      (λ j h. arc-at b bytes n m f good j (rw (arcs_length b bytes n m f good) at h))
      ∙ rw (arcs_length b bytes n m f good)
      (below_cong (λ j. g (as_key (key_at b (place b j f)))) (arc_is (records_at b n m f) g) m (λ j h. sym (arc-is g j h)))

module _ (b : List ℕ) (bytes : Bytes b) (n m f : ℕ) (good : check_of b ≡ Good n m f) (text : List ℕ) (slash : Bool) {Word : Type 0} (word : ℕ → Word)
    (i : Item) (rows : List (List ℕ)) where
  abbrev pub e : Entry Word
  e = entry_of word text slash i

  -- the sheet with these values
  abbrev pub bytes_of : Values → List ℕ
  bytes_of now = spelled (sheet_at b n m f) now

  -- what the program looks up: whether DEVICE hits arc j in the instance at p; the arc of any other
  abbrev pub hits : ℕ → ℕ → Bool
  hits p j = device_hit b text slash i.head p (place b j f)

  abbrev pub found : ℕ → Option ℕ
  found p = arc_of b text slash m f i.head p

  -- the entry, applied to the instance at p, means arc number j
  abbrev pub means : ℕ → ℕ → Bool
  means p = arc_is (records_at b n m f) (matches (path_at b p) e)

  -- DEVICE: the arcs that the program hits
  pub hit-is : (p j : ℕ) → j < m → eqb i.head.kind 4 ≡ true → hits p j ≡ means p j
  unfolding device_hit
  hit-is p j h d =
      sym (arc-is b bytes n m f good (matches (path_at b p) e) j h
      ∙ device-means text slash word i (path_at b p) (key_at b (place b j f)) d)

  -- any other: the arc that the program finds, and no other
  pub found-is : (p q : ℕ) → eqb i.head.kind 4 ≡ false → found p ≡ Some q
      → (j : ℕ) × (j < m) × (q ≡ place b j f) × ((l : ℕ) → means p l ≡ eqb l j)
  unfolding arc_of
  found-is p q d o =
      let a = arc-found b (wants text slash word i (path_at b p)) m f q o in
      (a.0, a.1, a.2, λ l. by a.0 a.1 (rw a.2 at a.3) l (ltb l m) refl)
    where
      by : (j : ℕ) → j < m → key_at b (place b j f) ≡ wants text slash word i (path_at b p) → (l : ℕ) (t : Bool) → ltb l m ≡ t → means p l ≡ eqb l j
      by j h k l true z =
          let c = ltb-true l m z in
          let g = matches (path_at b p) e in
          rw (arc-is b bytes n m f good g l c)
          (bool_same _ (eqb l j)
          (λ x. eq-eqb l j (arc_once b bytes n m f good l j c h (means-wants text slash word i (path_at b p) (key_at b (place b l f)) d x ∙ sym k)))
          (λ x. rw (eqb-true l j x, k) (wants-means text slash word i (path_at b p) d)))
      by j h k l false z =
          let c = ltb-false l m z in
          let g = matches (path_at b p) e in
          rw (arc-past b bytes n m f good g l c, ne_eqb l j (λ x. omega arith))

  -- nor where it finds none
  pub absent_is : (p : ℕ) → eqb i.head.kind 4 ≡ false → found p ≡ None → (l : ℕ) → l < m → means p l ≡ false
  unfolding arc_of
  absent_is p d o l h =
      let g = matches (path_at b p) e in
      rw (arc-is b bytes n m f good g l h)
      (not_so _ (λ x. arc_absent b (wants text slash word i (path_at b p)) m f l o h
      (means-wants text slash word i (path_at b p) (key_at b (place b l f)) d x)))

  module _ (laws : ArcLaws b n m f (entry_of word text slash i) rows (eqb i.head.group 73)) where
    -- the refusal in an instance, by the arcs that are meant there
    refusal-by : (p : ℕ) (now : Values) (hit : ℕ → Bool) → ((j : ℕ) → j < m → means p j ≡ hit j)
        → refusal_at (records_at b n m f) (path_at b p) e now
        ≡ first_of (not (any_of hit (below m))) (any_of (λ j. and (hit j) (arc_fails e 15 now j)) (below m))
        (any_of (λ j. and (hit j) (arc_fails e 16 now j)) (below m))
    unfolding refusal_at fails_at
    refusal-by p now hit h =
        rw (
          any_arc b bytes n m f good (matches (path_at b p) e),
          arcs_length b bytes n m f good,
          below_cong (means p) hit m h,
          below_cong (λ j. and (means p j) (arc_fails e 15 now j)) (λ j. and (hit j) (arc_fails e 15 now j)) m (λ j l. rw (h j l)),
          below_cong (λ j. and (means p j) (arc_fails e 16 now j)) (λ j. and (hit j) (arc_fails e 16 now j)) m (λ j l. rw (h j l)),
        )

    -- what the program refuses in an instance is what the history refuses there
    pub in_refusal : (p : ℕ) (now : Values) → Fine now
        → refusal_in b text slash n m f i.head rows (bytes_of now) p
        ≡ refusal_at (records_at b n m f) (path_at b p) e now
    unfolding refusal_in device_refusal found_refusal first_of
    in_refusal p now fine = go (eqb i.head.kind 4) refl
      where
        other : (x : Option ℕ) → found p ≡ x → eqb i.head.kind 4 ≡ false
            → found_refusal b text slash n m f i.head rows (bytes_of now) x
            ≡ refusal_at (records_at b n m f) (path_at b p) e now
        other (Some q) a d =
            let w = found-is p q d a in
            let j = w.0 in
            rw (
              w.2,
              refusal-by p now (λ l. eqb l j) (λ l x. w.3 l),
              below-some (λ l. eqb l j) m j w.1 (eqb_self j),
              below_one (arc_fails e 15 now) m j w.1,
              below_one (arc_fails e 16 now) m j w.1,
            ) (laws.arc-refusal now fine j w.1)
        other None a d =
            rw (refusal-by p now (λ l. false) (absent_is p d a), below_none (λ l. false) m (λ j h. refl))

        go : (t : Bool) → eqb i.head.kind 4 ≡ t
            → pick t (device_refusal b text slash n m f i.head rows (bytes_of now) p)
            (found_refusal b text slash n m f i.head rows (bytes_of now) (found p))
            ≡ refusal_at (records_at b n m f) (path_at b p) e now
        go true d =
            rw (some_any (hits p) m, laws.hits-refusal now fine (hits p) m (omega arith), refusal-by p now (hits p) (λ j h. sym (hit-is p j h d)))
            (first-none (any_of (hits p) (below m)) (any_of (λ j. and (hits p j) (arc_fails e 15 now j)) (below m))
            (any_of (λ j. and (hits p j) (arc_fails e 16 now j)) (below m)))
        go false d = other (found p) refl d

    -- where nothing is refused, what it writes is what the history leaves
    pub in_written : (p : ℕ) (now : Values) → Fine now → refusal_in b text slash n m f i.head rows (bytes_of now) p ≡ 0
        → (written_in b text slash n m f i.head rows (bytes_of now) p
        ≡ bytes_of (changed_at e (means p) now))
        × Fine (changed_at e (means p) now)
    unfolding refusal_in written_in device_refusal device_written found_refusal found_written
    in_written p now fine = go (eqb i.head.kind 4) refl
      where
        other : (x : Option ℕ) → found p ≡ x → eqb i.head.kind 4 ≡ false
            → found_refusal b text slash n m f i.head rows (bytes_of now) x ≡ 0
            → (found_written b text slash n m f i.head rows (bytes_of now) x
            ≡ bytes_of (changed_at e (means p) now))
            × Fine (changed_at e (means p) now)
        other (Some q) a d z =
            let w = found-is p q d a in
            let same : means p ≡ (λ l. eqb l w.0) = fun_ext w.3 in
            rw (w.2, same) (laws.arc-written now fine w.0 w.1 (rw w.2 at z))
        other None a d z = absurd (omega arith)

        all : eqb i.head.kind 4 ≡ true → (l : ℕ) (t : Bool) → ltb l m ≡ t → means p l ≡ and (hits p l) t
        all d l true x = sym (hit-is p l (ltb-true l m x) d) ∙ sym (and-all (hits p l))
        all d l false x = arc-past b bytes n m f good (matches (path_at b p) e) l (ltb-false l m x) ∙ sym (and_none (hits p l))

        least : (t : Bool) → (x : ℕ) → pick t x 14 ≡ 0 → x ≡ 0
        least true x z = z
        least false x z = absurd (omega arith)

        go : (t : Bool) → eqb i.head.kind 4 ≡ t
            → pick t (device_refusal b text slash n m f i.head rows (bytes_of now) p)
            (found_refusal b text slash n m f i.head rows (bytes_of now) (found p)) ≡ 0
            → (pick t (device_written b text slash n m f i.head rows (bytes_of now) p)
            (found_written b text slash n m f i.head rows (bytes_of now) (found p))
            ≡ bytes_of (changed_at e (means p) now))
            × Fine (changed_at e (means p) now)
        go true d z =
            let same : means p ≡ (λ l. and (hits p l) (ltb l m)) = fun_ext (λ l. all d l (ltb l m) refl) in
            rw same (laws.hits-written now fine (hits p) m (omega arith) (least (some_of (hits p) m) _ z))
        go false d z = other (found p) refl d z
