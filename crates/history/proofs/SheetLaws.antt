-- Annotating and patching, of cells and sheets: the statements behind demands 2 and 3, and ask 14.
-- Assumes nothing.
use Rattle.std.specs.Prelude.{◌≡◌, Bool, ◌⊎◌, ◌↔◌, ℕ, zero, suc, ◌≤◌, ◌<◌, length}
use Rattle.std.proofs.Math.Path.{refl, sym}
use Rattle.std.proofs.Common.{ap, ◌∙◌, length-append}
use Rattle.std.proofs.Math.Bool.{true, false}
use mathlib.Core.List.Memᴰ
use mathlib.Core.List.{List, [], ◌∷◌, ◌++◌, map, append_assoc, head-eq_of_cons-eq, tail-eq_of_cons-eq, Memᴰ}
use Rattle.std.proofs.Math.Option.{Option, none, some}
use Rattle.std.proofs.Math.Logic.{inl, inr, ⊎_elim}
use native.Mathlib.Omega.{arith}
use Rattle.std.proofs.Math.Decide.{ℕ_discrete, dec_lt}
use Rattle.std.proofs.Math.ListN.{get_elem?}
use Rattle.classes.specs.Choice.{pick, or}
use Rattle.names.specs.Name.{same_name}
use Rattle.history.specs.Events.{any_of, supplied, supply, when, Supply, nothing, holds, Event, sheet, left}
use Rattle.history.specs.Events.{history, affected, folded}
use Rattle.history.proofs.EventLaws.{some_inj, none≢some, any_false, any_none, Within, fold-is-annotated, accepted_exactly}
use Rattle.history.proofs.EventLaws.{patch-is_annotating, outside_unchanged, patches_commute}
use Rattle.history.specs.Sheet.{Instance, Records, Key, Row, r01, r10, r0z, rz1, r1z, rz0, Corner, minimum, typical, maximum, Slot}
use Rattle.history.specs.Sheet.{Values, Entry, Part, at, every, Cell, applies, addresses, unapplied, cell_number, lacks, cell_event, events}
use Rattle.history.specs.Sheet.{entry_event, file_events, given, if_arc, each, below, arc_slots, slots_of, Cut, behind, cut, swapped, annotate}
use Rattle.history.specs.Sheet.{patch_cut, patch}

-- all slots are listed

mem-each : {A B : Type 0} (f : A → List B) (l : List A) (a : A) (b : B) → Memᴰ a l → Memᴰ b (f a) → Memᴰ b (each f l)
unfolding each
mem-each f [] a b m k = absurd (Memᴰ.not-nil m)
mem-each f (x ∷ more) a b m k = go (mem-each f more a b) (Memᴰ.cases_cons m)
  where
    go : (Memᴰ a more → Memᴰ b (f a) → Memᴰ b (each f more)) → (a ≡ x) ⊎ Memᴰ a more → Memᴰ b (f x ++ each f more)
    go ih (inl p) = Memᴰ.append_left (each f more) (rw p at k)
    go ih (inr r) = Memᴰ.append_right (f x) (ih r k)

in_each : {A B : Type 0} (f : A → List B) (l : List A) (b : B) → Memᴰ b (each f l) → (a : A) × Memᴰ a l × Memᴰ b (f a)
unfolding each
in_each f [] b m = absurd (Memᴰ.not-nil m)
in_each {A} f (x ∷ more) b m = go (in_each f more b) (Memᴰ.append_cases (f x) m)
  where
    go : (Memᴰ b (each f more) → (a : A) × Memᴰ a more × Memᴰ b (f a)) → Memᴰ b (f x) ⊎ Memᴰ b (each f more)
        → (a : A) × Memᴰ a (x ∷ more) × Memᴰ b (f a)
    go ih (inl k) = (x, Memᴰ.head refl, k)
    go ih (inr k) = let (a, r, z) = ih k in (a, Memᴰ.tail r, z)

in_map : {A B : Type 0} (f : A → B) (l : List A) (b : B) → Memᴰ b (map f l) → (a : A) × (b ≡ f a)
in_map f [] b m = absurd (Memᴰ.not-nil m)
in_map {A} f (x ∷ more) b m = go (in_map f more b) (Memᴰ.cases_cons m)
  where
    go : (Memᴰ b (map f more) → (a : A) × (b ≡ f a)) → (b ≡ f x) ⊎ Memᴰ b (map f more) → (a : A) × (b ≡ f a)
    go ih (inl p) = (x, p)
    go ih (inr k) = ih k

mem_below : (n i : ℕ) → i < n → Memᴰ i (below n)
unfolding below
mem_below zero i h = absurd (omega arith)
mem_below (suc n) i h = go (ℕ_discrete i n) (mem_below n i)
  where
    go : Dec (i ≡ n) → (i < n → Memᴰ i (below n)) → Memᴰ i (below n ++ (n ∷ []))
    go (yes p) ih = Memᴰ.append_right (below n) (Memᴰ.head p)
    go (no q) ih = Memᴰ.append_left (n ∷ []) (ih (omega arith))

mem-row : (r : Row) → Memᴰ r (r01 ∷ r10 ∷ r0z ∷ rz1 ∷ r1z ∷ rz0 ∷ [])
mem-row r01 = Memᴰ.head refl
mem-row r10 = Memᴰ.tail (Memᴰ.head refl)
mem-row r0z = Memᴰ.tail (Memᴰ.tail (Memᴰ.head refl))
mem-row rz1 = Memᴰ.tail (Memᴰ.tail (Memᴰ.tail (Memᴰ.head refl)))
mem-row r1z = Memᴰ.tail (Memᴰ.tail (Memᴰ.tail (Memᴰ.tail (Memᴰ.head refl))))
mem-row rz0 = Memᴰ.tail (Memᴰ.tail (Memᴰ.tail (Memᴰ.tail (Memᴰ.tail (Memᴰ.head refl)))))

mem_corner : (c : Corner) → Memᴰ c (minimum ∷ typical ∷ maximum ∷ [])
mem_corner minimum = Memᴰ.head refl
mem_corner typical = Memᴰ.tail (Memᴰ.head refl)
mem_corner maximum = Memᴰ.tail (Memᴰ.tail (Memᴰ.head refl))

there : {A : Type 0} (l : List A) (i : ℕ) (a : A) → get_elem? l i ≡ some a → i < length l
there [] i a e = absurd (none≢some e)
there (x ∷ more) zero a e = omega arith
there (x ∷ more) (suc i) a e = let h = there more i a e in omega arith

-- loops: a test over all arcs, one more arc; and over one arc's 18 slots
pub any_append : {A : Type 0} (f : A → Bool) (x y : List A) → any_of f (x ++ y) ≡ or (any_of f x) (any_of f y)
unfolding any_of
any_append f [] y = refl
any_append f (a ∷ x) y = go (f a) (any_append f x y)
  where
    go : (b : Bool) → any_of f (x ++ y) ≡ or (any_of f x) (any_of f y) → or b (any_of f (x ++ y)) ≡ or (or b (any_of f x)) (any_of f y)
    go true e = refl
    go false e = e

pub any_each : {A B : Type 0} (f : B → Bool) (g : A → List B) (l : List A) → any_of f (each g l) ≡ any_of (λ (a : A). any_of f (g a)) l
unfolding any_of each
any_each f g [] = refl
any_each f g (a ∷ more) = any_append f (g a) (each g more) ∙ rw (any_each f g more)

or_off : (b : Bool) → or b false ≡ b
or_off true = refl
or_off false = refl

pub any_below : (f : ℕ → Bool) (n : ℕ) → any_of f (below (suc n)) ≡ or (any_of f (below n)) (f n)
unfolding below any_of
any_below f n = any_append f (below n) (n ∷ []) ∙ ap (λ (b : Bool). or (any_of f (below n)) b) (or_off (f n))

pub arc-listed : (records : Records) (s : Slot) → s.arc < length records.arcs → Memᴰ s (slots_of records)
unfolding slots_of arc_slots
arc-listed records s h = mem-each arc_slots (below (length records.arcs)) s.arc s (mem_below (length records.arcs) s.arc h)
    (mem-each _ _ s.row s (mem-row s.row) (mem-each _ _ s.corner s (mem_corner s.corner) (Memᴰ.head refl)))

pub all_slots : (records : Records) (s : Slot) (k : Key) → get_elem? records.arcs s.arc ≡ some k → Memᴰ s (slots_of records)
all_slots records s k e = arc-listed records s (there records.arcs s.arc k e)

-- cuts

pub cut_joins : {A : Type 0} (l : List A) (k : ℕ) (p : Cut A) → cut l k ≡ some p → (swapped p p.one ≡ l) × (suc (length p.before) ≡ k)
unfolding cut swapped behind
cut_joins l zero p e = absurd (none≢some e)
cut_joins [] (suc k) p e = absurd (none≢some e)
cut_joins {A} (a ∷ more) (suc zero) p e = let q = some_inj e in (
  ap (λ (x : Cut A). x.before ++ (x.one ∷ x.after))
      (sym q),
  ap (λ (x : Cut A). suc (length x.before)) (sym q),
)
cut_joins {A} (a ∷ more) (suc (suc k)) p e = go (cut more (suc k)) e (λ r. cut_joins more (suc k) r)
  where
    go : (o : Option (Cut A)) → behind a o ≡ some p
        → ((r : Cut A) → o ≡ some r → (r.before ++ (r.one ∷ r.after) ≡ more) × (suc (length r.before) ≡ suc k))
        → (p.before ++ (p.one ∷ p.after) ≡ a ∷ more) × (suc (length p.before) ≡ suc (suc k))
    go none f ih = absurd (none≢some f)
    go (some r) f ih =
        let q = some_inj f in
        let (x, y) = ih r refl in (
          ap (λ (x : Cut A). x.before ++ (x.one ∷ x.after)) (sym q) ∙ ap (λ (x : List A). a ∷ x) x,
          ap (λ (x : Cut A). suc (length x.before))
              (sym q) ∙ ap suc y,
        )

pub cut_at : {A : Type 0} (before : List A) (one : A) (after : List A)
    → cut (before ++ (one ∷ after)) (suc (length before)) ≡ some (record { before = before; one = one; after = after })
unfolding cut behind
cut_at [] one after = refl
cut_at (a ∷ before) one after = rw (cut_at before one after)

cut-is : {A : Type 0} (l : List A) (k : ℕ) (before : List A) (one : A) (after : List A) → l ≡ before ++ (one ∷ after) → k ≡ suc (length before)
    → cut l k ≡ some (record { before = before; one = one; after = after })
cut-is l k before one after p q = rw (p, q) (cut_at before one after)

-- 17 exactly: the number is 0 or beyond the last
pub cut-none : {A : Type 0} (l : List A) (k : ℕ) → cut l k ≡ none → (k ≡ 0) ⊎ (length l < k)
unfolding cut behind
cut-none l zero e = inl refl
cut-none [] (suc k) e = inr (omega arith)
cut-none {A} (a ∷ more) (suc zero) e = absurd (none≢some (sym e))
cut-none {A} (a ∷ more) (suc (suc k)) e = go (cut more (suc k)) e (cut-none more (suc k))
  where
    go : (o : Option (Cut A)) → behind a o ≡ none → (o ≡ none → (suc k ≡ 0) ⊎ (length more < suc k))
        → (suc (suc k) ≡ 0) ⊎ (suc (length more) < suc (suc k))
    go none f ih = ⊎_elim (λ x. absurd (omega arith)) (λ x. inr (omega arith)) (ih refl)
    go (some r) f ih = absurd (none≢some (sym f))

pub cut-some : {A : Type 0} (l : List A) (k : ℕ) (p : Cut A) → cut l k ≡ some p → (1 ≤ k) × (k ≤ length l)
unfolding swapped
cut-some l k p e = let (x, y) = cut_joins l k p e in let h = rw length-append at (ap length x) in (omega arith, omega arith)

-- two cuts of one list, the first before the second
apart : {A : Type 0} (x y u v : List A) (a b : A) → x ++ (a ∷ y) ≡ u ++ (b ∷ v) → length x < length u
    → (m : List A) × (u ≡ x ++ (a ∷ m)) × (y ≡ m ++ (b ∷ v))
apart [] y [] v a b e h = absurd (omega arith)
apart {A} [] y (c ∷ u) v a b e h = (u, ap (λ (z : A). z ∷ u) (sym (head-eq_of_cons-eq e)), tail-eq_of_cons-eq e)
apart (d ∷ x) y [] v a b e h = absurd (omega arith)
apart (d ∷ x) y (c ∷ u) v a b e h = let (m, p, q) = apart x y u v a b (tail-eq_of_cons-eq e)
    (omega arith) in let z = head-eq_of_cons-eq e in (m, cc, q)

module _ (records : Records) {Word : Type 0} where
  file-append : (b a : List (Cell Word)) → file_events records (b ++ a) ≡ file_events records b ++ file_events records a
  unfolding file_events each
  file-append [] a = refl
  file-append (c ∷ b) a = rw (file-append b a) (sym (append_assoc (events records c) _ _))

  pub file-at : (b : List (Cell Word)) (c : Cell Word) (a : List (Cell Word))
      → file_events records (b ++ (c ∷ a)) ≡ file_events records b ++ (events records c ++ file_events records a)
  unfolding file_events each
  file-at b c a = file-append b (c ∷ a)

  -- an entry supplies slots of the sheet only
  given-within : (c : Cell Word) (e : Entry Word) (s : Slot) → Memᴰ s (slots_of records) ⊎ ((entry_event records c e).gives s ≡ nothing)
  unfolding given if_arc entry_event
  given-within c e s = go (get_elem? records.arcs s.arc) refl
    where
      go : (o : Option Key) → get_elem? records.arcs s.arc ≡ o → Memᴰ s (slots_of records) ⊎ (given records c e s ≡ nothing)
      go none p = inr (rw p)
      go (some k) p = inl (all_slots records s k p)

  -- an event of a file is a cell's keyword or an entry of one
  pub event_of_lem : (cells : List (Cell Word)) (d : Event Slot Word) → Memᴰ d (file_events records cells)
      → (c : Cell Word) × ((d ≡ cell_event records c) ⊎ ((e : Entry Word) × (d ≡ entry_event records c e)))
  unfolding file_events events
  event_of_lem cells d m = let (c, x, k) = in_each (events records) cells d m in (c, go c (Memᴰ.cases_cons k))
    where
      go : (c : Cell Word) → (d ≡ cell_event records c) ⊎ Memᴰ d (map (entry_event records c) c.entries)
          → (d ≡ cell_event records c) ⊎ ((e : Entry Word) × (d ≡ entry_event records c e))
      go c (inl p) = inl p
      go c (inr k) = inr (in_map (entry_event records c) c.entries d k)

  pub file-within : (cells : List (Cell Word)) → Within (slots_of records) (file_events records cells)
  unfolding Within cell_event
  file-within cells d m s = let (c, x) = event_of_lem cells d m in go c x
    where
      go : (c : Cell Word) → (d ≡ cell_event records c) ⊎ ((e : Entry Word) × (d ≡ entry_event records c e))
          → Memᴰ s (slots_of records) ⊎ (d.gives s ≡ nothing)
      go c (inl p) = inr (ap (λ (x : Event Slot Word). x.gives s) p)
      go c (inr (e, p)) = ⊎_elim inl (λ q. inr (ap (λ (x : Event Slot Word). x.gives s) p ∙ q)) (given-within c e s)

  -- Take a sheet that annotating gave, and cell number k of the file. Patching gives the answer, sheet or refusal, that annotating with the new
  -- file gives.
  pub patch_annotates : (start : Values) (cells : List (Cell Word)) (k : ℕ) (origin : Word) (incoming : Cell Word) (current : Values)
      (p : Cut (Cell Word))
      → annotate records start cells ≡ sheet current → cut cells k ≡ some p
      → patch records start cells k origin incoming current ≡ annotate records start (swapped p incoming)
  unfolding annotate patch patch_cut swapped
  patch_annotates start cells k origin incoming current p e f =
      rw (f, file-at) (patch-is_annotating (slots_of records) start _ (events records p.one) _ _ current
      (rw (← (cut_joins cells k p f).0, file-at p.before p.one p.after) at e))

  -- Annotating as a program does it, entry by entry on one sheet
  pub annotate-by_entries : (start : Values) (cells : List (Cell Word))
      → folded (slots_of records) start (file_events records cells) ≡ annotate records start cells
  unfolding annotate
  annotate-by_entries start cells = fold-is-annotated (slots_of records) start (file_events records cells) (file-within cells)

  -- Whatever the current sheet and the answer: a value that neither cell supplies is as before
  pub patch-outside : (start : Values) (cells : List (Cell Word)) (k : ℕ) (origin : Word) (incoming : Cell Word) (current : Values)
      (p : Cut (Cell Word)) (s : Slot) → cut cells k ≡ some p
      → affected (events records p.one) (events records incoming) s ≡ false → left current (patch records start cells k origin incoming current) s
      ≡ current s
  unfolding patch patch_cut
  patch-outside start cells k origin incoming current p s f q = rw f (outside_unchanged (slots_of records) start _ _ _ _ current s q)

  -- Two patches in either order, j before k
  ordered : (start : Values) (cells : List (Cell Word)) (j k : ℕ) (origin : Word) (c d : Cell Word) (current v1 w1 v2 w2 : Values)
      (p q : Cut (Cell Word))
      → cut cells j ≡ some p → cut cells k ≡ some q → j < k
      → patch records start cells j origin c current ≡ sheet v1 → patch records start (swapped p c) k origin d v1 ≡ sheet w1
      → patch records start cells k origin d current ≡ sheet v2 → patch records start (swapped q d) j origin c v2 ≡ sheet w2 → w1 ≡ w2
  unfolding patch patch_cut swapped
  ordered start cells j k origin c d current v1 w1 v2 w2 p q f g h e1 f1 e2 f2 = go (apart p.before p.after q.before q.after p.one
      q.one (pj.0 ∙ sym qk.0) (omega (arith, pj.1, qk.1)))
    where
      pj : (swapped p p.one ≡ cells) × (suc (length p.before) ≡ j)
      pj = cut_joins cells j p f

      qk : (swapped q q.one ≡ cells) × (suc (length q.before) ≡ k)
      qk = cut_joins cells k q g

      go : (m : List (Cell Word)) × (q.before ≡ p.before ++ (p.one ∷ m)) × (p.after ≡ m ++ (q.one ∷ q.after)) → w1 ≡ w2
      go (m, x, y) = patches_commute (slots_of records) start (file_events records p.before) (events records p.one) (file_events records m)
          (events records q.one) (file_events records q.after)
          (events records c) (events records d) current v1 w1 v2 w2
          (rw (f, y, file-at m q.one q.after) at e1) (rw (cut1, file-at p.before c m) at f1)
          (rw (g, x, file-at p.before p.one m) at e2) (rw (cut2, file-at m d q.after) at f2)
        where
          cut1 : cut (p.before ++ (c ∷ p.after)) k ≡ some (record { before = p.before ++ (c ∷ m); one = q.one; after = q.after })
          cut1 = cut-is _ k (p.before ++ (c ∷ m)) q.one q.after (rw (y, append_assoc)) (sym qk.1 ∙ rw (x, length-append, length-append))

          cut2 : cut (q.before ++ (d ∷ q.after)) j ≡ some (record { before = p.before; one = p.one; after = m ++ (d ∷ q.after) })
          cut2 = cut-is _ j p.before p.one (m ++ (d ∷ q.after)) (rw (x, append_assoc)) (sym pj.1)

  pub patch_commutes : (start : Values) (cells : List (Cell Word)) (j k : ℕ) (origin : Word) (c d : Cell Word) (current v1 w1 v2 w2 : Values)
      (p q : Cut (Cell Word))
      → cut cells j ≡ some p → cut cells k ≡ some q → (j ≡ k → ⊥)
      → patch records start cells j origin c current ≡ sheet v1 → patch records start (swapped p c) k origin d v1 ≡ sheet w1
      → patch records start cells k origin d current ≡ sheet v2 → patch records start (swapped q d) j origin c v2 ≡ sheet w2 → w1 ≡ w2
  patch_commutes start cells j k origin c d current v1 w1 v2 w2 p q f g n e1 f1 e2 f2 = go (dec_lt j k)
    where
      go : Dec (j < k) → w1 ≡ w2
      go (yes h) = ordered start cells j k origin c d current v1 w1 v2 w2 p q f g h e1 f1 e2 f2
      go (no h) = sym (ordered start cells k j origin d c current v2 w2 v1 w1 q p g f (omega arith) e2 f2 e1 f1)

  -- What document 01 says of other cells: one that 12 or 13 would refuse supplies nothing
  no_instance : (c : Cell Word) (n : ℕ) → cell_number records c ≡ some n → any_of (applies c) records.instances ≡ false
  unfolding cell_number
  no_instance c n e = go (any_of (applies c) records.instances) e
    where
      go : (b : Bool) → pick b none (unapplied records.instances c.part) ≡ some n → b ≡ false
      go true q = absurd (none≢some q)
      go false q = refl

  pub refused_supplies-nothing : (c : Cell Word) (n : ℕ) (s : Slot) → cell_number records c ≡ some n → supply (events records c) s ≡ false
  unfolding supply events supplied any_of cell_event entry_event given addresses if_arc
  refused_supplies-nothing c n s e = any_none _ (map (entry_event records c) c.entries) (λ d m. let (x, p) = in_map (entry_event records c)
      c.entries d m in rw p (go x (get_elem? records.arcs s.arc) _))
    where
      off : (x : Entry Word) (k : Key) → addresses records c x k ≡ false
      off x k = any_none _ records.instances (λ i m. rw (any_false _ records.instances i (no_instance c n e) m))

      go : (x : Entry Word) (o : Option Key) (y : Supply) → supplied (if_arc o (addresses records c x) y) ≡ false
      go x none y = refl
      go x (some k) y = rw (off x k)

  -- an event's own number is 12, 13 or 14
  pub own_low : (cells : List (Cell Word)) (d : Event Slot Word) → Memᴰ d (file_events records cells) → (k : ℕ) → d.own ≡ some k → k < 15
  unfolding cell_event entry_event cell_number unapplied when
  own_low cells d m k p = let (c, x) = event_of_lem cells d m in go c x
    where
      why : (t : Bool) → pick t (some 13) (some 12) ≡ some k → k < 15
      why true q = let z = some_inj q in omega arith
      why false q = let z = some_inj q in omega arith

      cell : (b : Bool) (i : Part) → pick b none (unapplied records.instances i) ≡ some k → k < 15
      cell true i q = absurd (none≢some q)
      cell false (at x) q = why (any_of (λ (i : Instance). same_name i.path x) records.instances) q
      cell false every q = absurd (none≢some q)

      entry : (b : Bool) → when b 14 ≡ some k → k < 15
      entry true q = let z = some_inj q in omega arith
      entry false q = absurd (none≢some q)

      go : (c : Cell Word) → (d ≡ cell_event records c) ⊎ ((e : Entry Word) × (d ≡ entry_event records c e)) → k < 15
      go c (inl q) = cell (any_of (applies c) records.instances) c.part (sym (ap (λ (x : Event Slot Word). x.own) q) ∙ p)
      go c (inr (e, q)) = entry (lacks records c e) (sym (ap (λ (x : Event Slot Word). x.own) q) ∙ p)

  -- What annotating gives, exactly (demand 2): the sheet v, if no cell gets 12 or 13 and no entry 14, and every slot's history over all entries
  -- holds v there
  pub annotate_exactly : (start v : Values) (cells : List (Cell Word)) → (annotate records start cells ≡ sheet v) ↔
      (((e : Event Slot Word) → Memᴰ e (file_events records cells) → e.own ≡ none) × ((s : Slot)
      → history (holds (start s)) (file_events records cells) s ≡ holds (v s)))
  unfolding annotate
  annotate_exactly start v cells = accepted_exactly (slots_of records) start v (file_events records cells) (file-within cells)
