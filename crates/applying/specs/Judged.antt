-- One entry of a cell, taken instance by instance and arc by arc: its refusal, and what it leaves in each slot.
-- Assumes nothing.
use Prim.Native.Nat.{ℕ, suc}
use Rattle.std.specs.Prelude.{◌≡◌, Bool, true, false, not, List, [], ◌∷◌, ◌++◌, eqb, length}
use Rattle.std.proofs.Math.Path.{refl, sym}
use Rattle.std.proofs.Common.{◌∙◌}
use Rattle.std.proofs.Math.Option.{Option, none, some}
use Rattle.std.proofs.Math.ListN.{get_elem?}
use Rattle.classes.specs.Choice.{pick, and, or}
use Rattle.amounts.specs.Laws.{first_of}
use Rattle.history.specs.Events.{Value, Supply, nothing, fails_with, step, final, any_of, when, or_else, stuck, judge}
use Rattle.history.proofs.EventLaws.{any_cong}
use Rattle.history.specs.Sheet.{Instance, Key, Records, Slot, Values, Entry, Cell, each, matches, applies, addresses, lacks, given, if_arc, giving, amount, rows, entry_event, below, arc_slots, slots_of}

-- 0 is no number
unfoldable pub numbered : ℕ → Option ℕ
numbered n = pick (eqb n 0) none (some n)

pub first-numbered : (a b c : Bool) → or_else (when a 14) (or_else (when b 15) (when c 16)) ≡ numbered (first_of a b c)
unfolding first_of numbered or_else when
first-numbered true b c = refl
first-numbered false true c = refl
first-numbered false false true = refl
first-numbered false false false = refl

-- Some of a list.

or-false : (b : Bool) → or b false ≡ b
or-false true = refl
or-false false = refl

or_assoc : (a b c : Bool) → or (or a b) c ≡ or a (or b c)
or_assoc true b c = refl
or_assoc false b c = refl

or_swap : (a b c d : Bool) → or (or a b) (or c d) ≡ or (or a c) (or b d)
or_swap true b c d = refl
or_swap false true true d = refl
or_swap false true false d = refl
or_swap false false c d = refl

and-or : (a b c : Bool) → and (or a b) c ≡ or (and a c) (and b c)
and-or true true true = refl
and-or true false true = refl
and-or true b false = by b
  where
    by : (b : Bool) → and (or true b) false ≡ or (and true false) (and b false)
    by true = refl
    by false = refl
and-or false b c = refl

and_or_right : (a b c : Bool) → and a (or b c) ≡ or (and a b) (and a c)
and_or_right true b c = refl
and_or_right false b c = refl

and-false : (b : Bool) → and b false ≡ false
and-false true = refl
and-false false = refl

pub and_assoc : (a b c : Bool) → and (and a b) c ≡ and a (and b c)
and_assoc true b c = refl
and_assoc false b c = refl

pub any_append : {A : Type 0} (f : A → Bool) (l m : List A) → any_of f (l ++ m) ≡ or (any_of f l) (any_of f m)
unfolding any_of
any_append f [] m = refl
any_append f (a ∷ l) m = rw (any_append f l m) (sym (or_assoc (f a) (any_of f l) (any_of f m)))

pub any_or : {A : Type 0} (f g : A → Bool) (l : List A) → any_of (λ (a : A). or (f a) (g a)) l ≡ or (any_of f l) (any_of g l)
unfolding any_of
any_or f g [] = refl
any_or f g (a ∷ l) = rw (any_or f g l) (or_swap (f a) (g a) (any_of f l) (any_of g l))

pub and_any : {A : Type 0} (b : Bool) (f : A → Bool) (l : List A) → any_of (λ (a : A). and b (f a)) l ≡ and b (any_of f l)
unfolding any_of
and_any b f [] = sym (and-false b)
and_any b f (a ∷ l) = rw (and_any b f l) (sym (and_or_right b (f a) (any_of f l)))

pub any_and : {A : Type 0} (f : A → Bool) (b : Bool) (l : List A) → any_of (λ (a : A). and (f a) b) l ≡ and (any_of f l) b
unfolding any_of
any_and f b [] = refl
any_and f b (a ∷ l) = rw (any_and f b l) (sym (and-or (f a) (any_of f l) b))

any_nothing : {A : Type 0} (l : List A) → any_of (λ (a : A). false) l ≡ false
unfolding any_of
any_nothing [] = refl
any_nothing (a ∷ l) = any_nothing l

-- in either order
pub any_any : {A B : Type 0} (f : A → B → Bool) (l : List A) (m : List B)
    → any_of (λ (a : A). any_of (f a) m) l ≡ any_of (λ (b : B). any_of (λ (a : A). f a b) l) m
unfolding any_of
any_any f [] m = sym (any_nothing m)
any_any {A} f (a ∷ l) m = rw (any_any f l m) (sym (any_or (f a) (λ b. any_of (λ (x : A). f x b) l) m))

pub any_each : {A B : Type 0} (f : B → Bool) (g : A → List B) (l : List A) → any_of f (each g l) ≡ any_of (λ (a : A). any_of f (g a)) l
unfolding any_of each
any_each f g [] = refl
any_each f g (a ∷ l) = any_append f (g a) (each g l) ∙ rw (any_each f g l)

-- one number more
pub any_below : (f : ℕ → Bool) (n : ℕ) → any_of f (below (suc n)) ≡ or (any_of f (below n)) (f n)
unfolding below any_of
any_below f n = any_append f (below n) (n ∷ []) ∙ rw (or-false (f n))

-- What an entry gives to a slot of an arc that it addresses.

module _ {Word : Type 0} (e : Entry Word) where
  unfoldable pub supply : Slot → Supply
  supply t = giving e.group (amount (rows e.group e.values t.row) t.corner)

  -- some slot of arc j fails with this number
  unfoldable pub arc_fails : ℕ → Values → ℕ → Bool
  arc_fails n now j = any_of (λ (t : Slot). fails_with n (step (now t) (supply t))) (arc_slots j)

  -- the values, with those of the arcs that pass the test changed
  unfoldable pub changed_at : (ℕ → Bool) → Values → Values
  changed_at hit now t = pick (hit t.arc) (final (step (now t) (supply t))) (now t)

pub fails_given : (n : ℕ) (v : Value) (b : Bool) (x : Supply) → fails_with n (step v (pick b x nothing)) ≡ and b (fails_with n (step v x))
unfolding fails_with step
fails_given n v true x = refl
fails_given n v false x = refl

pub final-given : (v : Value) (b : Bool) (x : Supply) → final (step v (pick b x nothing)) ≡ pick b (final (step v x)) v
unfolding final step
final-given v true x = refl
final-given v false x = refl

-- the arc is there and passes the test
unfoldable pub key_is : (Key → Bool) → Option Key → Bool
key_is f none = false
key_is f (some k) = f k

unfoldable pub arc_is : Records → (Key → Bool) → ℕ → Bool
arc_is records f j = key_is f (get_elem? records.arcs j)

module _ (records : Records) {Word : Type 0} where
  -- in the instance with this path some addressed arc fails with this number
  unfoldable pub fails_at : List ℕ → Entry Word → ℕ → Values → Bool
  fails_at path e n now = any_of (λ (j : ℕ). and (arc_is records (matches path e) j) (arc_fails e n now j)) (below (length records.arcs))

  -- the entry's refusal in the instance with this path
  unfoldable pub refusal_at : List ℕ → Entry Word → Values → ℕ
  refusal_at path e now = first_of (not (any_of (matches path e) records.arcs)) (fails_at path e 15 now) (fails_at path e 16 now)

  -- and in all instances that its cell applies to
  unfoldable pub refusal_of : Cell Word → Entry Word → Values → ℕ
  refusal_of c e now =
      first_of (lacks records c e) (any_of (λ (i : Instance). and (applies c i) (fails_at i.path e 15 now)) records.instances)
      (any_of (λ (i : Instance). and (applies c i) (fails_at i.path e 16 now)) records.instances)

  pub given_is : (c : Cell Word) (e : Entry Word) (t : Slot) → given records c e t ≡ pick (arc_is records (addresses records c e) t.arc) (supply e t) nothing
  unfolding given if_arc arc_is key_is supply
  given_is c e t = go (get_elem? records.arcs t.arc)
    where
      go : (o : Option Key) → if_arc o (addresses records c e) (supply e t) ≡ pick (key_is (addresses records c e) o) (supply e t) nothing
      go none = refl
      go (some k) = refl

  pub arc_addressed : (c : Cell Word) (e : Entry Word) (j : ℕ)
      → arc_is records (addresses records c e) j ≡ any_of (λ (i : Instance). and (applies c i) (arc_is records (matches i.path e) j)) records.instances
  unfolding arc_is key_is addresses
  arc_addressed c e j = go (get_elem? records.arcs j)
    where
      go : (o : Option Key) → key_is (addresses records c e) o
          ≡ any_of (λ (i : Instance). and (applies c i) (key_is (matches i.path e) o)) records.instances
      go none = sym (any_cong _ (λ (i : Instance). false) records.instances (λ i m. and-false (applies c i)) ∙ any_nothing records.instances)
      go (some k) = refl

  arc-slots : (n : ℕ) (now : Values) (c : Cell Word) (e : Entry Word) (j : ℕ)
      → any_of (λ (t : Slot). fails_with n (step (now t) (given records c e t))) (arc_slots j) ≡ and (arc_is records (addresses records c e) j) (arc_fails e n now j)
  unfolding arc_fails arc_slots each any_of
  arc-slots n now c e j =
      any_cong (λ (t : Slot). fails_with n (step (now t) (given records c e t)))
      (λ (t : Slot). and (arc_is records (addresses records c e) t.arc) (fails_with n (step (now t) (supply e t)))) (arc_slots j)
      (λ t m. rw (given_is c e t) (fails_given n (now t) (arc_is records (addresses records c e) t.arc) (supply e t)))
      ∙ same-arc (arc_is records (addresses records c e)) (λ t. fails_with n (step (now t) (supply e t)))
    where
      same-arc : (h : ℕ → Bool) (f : Slot → Bool) → any_of (λ (t : Slot). and (h t.arc) (f t)) (arc_slots j) ≡ and (h j) (any_of f (arc_slots j))
      same-arc h f = and_any (h j) f (arc_slots j)

  stuck-is : (n : ℕ) (now : Values) (c : Cell Word) (e : Entry Word)
      → stuck (slots_of records) n now (entry_event records c e) ≡ any_of (λ (i : Instance). and (applies c i) (fails_at i.path e n now)) records.instances
  unfolding stuck entry_event slots_of fails_at
  stuck-is n now c e =
      let m = below (length records.arcs) in
      any_each (λ (t : Slot). fails_with n (step (now t) (given records c e t))) arc_slots m
      ∙ any_cong _ (λ (j : ℕ). any_of (λ (i : Instance). and (applies c i) (and (arc_is records (matches i.path e) j) (arc_fails e n now j))) records.instances) m
      (λ j x. arc-slots n now c e j ∙ rw (arc_addressed c e j) (sym (any_and _ (arc_fails e n now j) records.instances)
      ∙ any_cong _ _ records.instances (λ i y. and_assoc (applies c i) (arc_is records (matches i.path e) j) (arc_fails e n now j))))
      ∙ any_any (λ (j : ℕ) (i : Instance). and (applies c i) (and (arc_is records (matches i.path e) j) (arc_fails e n now j))) m records.instances
      ∙ any_cong _ _ records.instances (λ i x. and_any (applies c i) (λ (j : ℕ). and (arc_is records (matches i.path e) j) (arc_fails e n now j)) m)

  own_first : (c : Cell Word) (e : Entry Word) (b d : Bool)
      → or_else (entry_event records c e).own (or_else (when b 15) (when d 16)) ≡ numbered (first_of (lacks records c e) b d)
  unfolding entry_event
  own_first c e b d = first-numbered (lacks records c e) b d

  -- the refusal of an entry, instance by instance and arc by arc
  pub judged : (now : Values) (c : Cell Word) (e : Entry Word) → judge (slots_of records) now (entry_event records c e) ≡ numbered (refusal_of c e now)
  unfolding judge refusal_of
  judged now c e = rw (stuck-is 15 now c e, stuck-is 16 now c e) (own_first c e _ _)

  -- and what it leaves
  pub applied : (now : Values) (c : Cell Word) (e : Entry Word) (t : Slot)
      → final (step (now t) ((entry_event records c e).gives t))
      ≡ changed_at e (λ (j : ℕ). any_of (λ (i : Instance). and (applies c i) (arc_is records (matches i.path e) j)) records.instances) now t
  unfolding entry_event changed_at
  applied now c e t = rw (given_is c e t, ← arc_addressed c e t.arc) (final-given (now t) (arc_is records (addresses records c e) t.arc) (supply e t))
