-- Each listed cell has as many entries as entries' keywords stand between its keyword and the next cell's.
-- Assumes nothing.
use Rattle.std.specs.Prelude.{◌≡◌, refl, false, List, [], ◌∷◌, ◌++◌, ℕ, suc, ◌+◌, ◌-◌, ◌≤◌, eqb, length, ℤ, Result, Ok, Err}
use Rattle.std.proofs.Common.{sym, ap, subst, ◌∙◌, true≢false, append-nil, append_assoc, zero-le, arith, length-append, eqb-true}
use Rattle.std.proofs.Math.Option.{none, some}
use Rattle.classes.specs.Choice.{pick}
use Rattle.tokens.specs.Stream.{Placed}
use Rattle.numbershape.specs.Value.{number_of}
use Rattle.numbershape.specs.declared.NotTime.{NotTime}
use Rattle.grammar.specs.Ll.{none≢some}
use Rattle.grammar.specs.Machine.{fine, bad, fine_inj, judges}
use Rattle.grammar.specs.Grammar.{Cls, Note, skip, heading, type, top, named, any, finish, edged, end, plain, empty, all, whole, close, Act, note, divide, scaled, unity, joined, cell, entry, time}
use Rattle.grammar.specs.Grammar as G
use Rattle.grammar.specs.declared.Cell.{Cell}
use Rattle.grammar.specs.Meaning.{Log, Book, item_of, noted, overlong, refused≢fine, timed, judge, judge_by}
use Rattle.laws.specs.Walk.{through, along_inv, kept_if, some_inj}
use Rattle.laws.specs.Taken.{As, starting, Taken, terms, tells, opens_cell, opens_entry}
use Rattle.laws.specs.Phases.{leaves, turns, proper, moves, every, from, to}
use Rattle.laws.proofs.Judged.{pick_fine}
use Rattle.laws.proofs.Behind.{then_fine}

-- 'number of entries', of each listed cell
abbrev pub entry_counts : List Cell → List ℕ
entry_counts [] = []
entry_counts (c ∷ cs) = c.entries ∷ entry_counts cs

abbrev one_on : Act → ℕ → ℕ
one_on a n = pick (opens_cell a) 0 (pick (opens_entry a) (suc n) n)

abbrev one_for : Act → ℕ → List ℕ → List ℕ
one_for a n r = pick (opens_cell a) (n ∷ r) r

-- how many entries' keywords come before the next cell's
abbrev pub ahead : List Taken → ℕ
ahead [] = 0
ahead (x ∷ xs) = one_on x.by.act (ahead xs)

-- and that number for each cell
abbrev pub per_cell : List Taken → List ℕ
per_cell [] = []
per_cell (x ∷ xs) = one_for x.by.act (ahead xs) (per_cell xs)

-- the entries of the cell in hand, with the entry in hand (2)
abbrev in_hand : ℕ → Log → ℕ
in_hand q l = (length l.items + pick (eqb q 2) 1 0) - l.begun.before

-- the numbers of all cells, by what is listed and in hand, and what is ahead
abbrev expected : ℕ → Log → ℕ → List ℕ → List ℕ
expected q l n r = entry_counts l.cells ++ pick (eqb q 0) r ((in_hand q l + n) ∷ r)

abbrev Kept : ℕ → Log → Type 0
Kept q l = eqb q 0 ≡ false → l.begun.before ≤ length l.items

-- a token changes nothing of that
record Step (q : ℕ) (l : Log) (p : ℕ) (m : Log) (a : Act) (n : ℕ) (r : List ℕ) : Type 0 where
  same : expected p m n r ≡ expected q l (one_on a n) (one_for a n r)
  kept : Kept p m

still : (q p : ℕ) (l m : Log) (a : Act) (n : ℕ) (r : List ℕ) → some q ≡ some p → Step q l q m a n r → Step q l p m a n r
still q p l m a n r e h = subst (λ (x : ℕ). Step q l x m a n r) (some_inj e) h

turned : (q k p o : ℕ) (l m : Log) (a : Act) (n : ℕ) (r : List ℕ) → pick (eqb q k) (some o) none ≡ some p → Kept q l → (p ≡ 0 → n ≡ 0) →
    (Kept k l → (o ≡ 0 → n ≡ 0) → Step k l o m a n r) → Step q l p m a n r
turned q k p o l m a n r e y z h =
    let (v, f) = kept_if (eqb q k) (some o) p e in
    let i = eqb-true q k v in
    subst (λ (x : ℕ). Step x l p m a n r) (sym i)
    (subst (λ (x : ℕ). Step k l x m a n r) (some_inj f) (h (subst (λ (x : ℕ). Kept x l) i y) (λ g. z (sym (some_inj f) ∙ g))))

counts_more : (cs : List Cell) (c : Cell) → entry_counts (cs ++ c ∷ []) ≡ entry_counts cs ++ c.entries ∷ []
counts_more [] c = refl
counts_more (x ∷ cs) c = ap (λ (l : List ℕ). x.entries ∷ l) (counts_more cs c)

noted_step : (k : Note) (t : Placed) (l : Log) (q p : ℕ) (n : ℕ) (r : List ℕ) → leaves q k ≡ some p → Kept q l → (p ≡ 0 → n ≡ 0) →
    Step q l p (noted k t l) (note k) n r
noted_step skip t l q p n r e y z = still q p l _ _ n r e (record { same = refl; kept = y })
noted_step (heading k) t l q p n r e y z = still q p l _ _ n r e (record { same = refl; kept = y })
noted_step type t l q p n r e y z = still q p l _ _ n r e (record { same = refl; kept = y })
noted_step top t l q p n r e y z = still q p l _ _ n r e (record { same = refl; kept = y })
noted_step named t l q p n r e y z = still q p l _ _ n r e (record { same = refl; kept = y })
noted_step any t l q p n r e y z = still q p l _ _ n r e (record { same = refl; kept = y })
noted_step finish t l q p n r e y z =
    turned q 1 p 0 l _ _ n r e y z
    (λ i j. let o = j refl in record {
      same = ap (λ (x : List ℕ). x ++ r) (counts_more l.cells _) ∙ (append_assoc (entry_counts l.cells) _ r
          ∙ ap (λ (x : ℕ). entry_counts l.cells ++ x ∷ r) (omega arith));
      kept = λ f. absurd (true≢false f);
    })
noted_step (edged i) t l q p n r e y z = still q p l _ _ n r e (record { same = refl; kept = y })
noted_step (end i) t l q p n r e y z = still q p l _ _ n r e (record { same = refl; kept = y })
noted_step (plain i) t l q p n r e y z = still q p l _ _ n r e (record { same = refl; kept = y })
noted_step G.none t l q p n r e y z = still q p l _ _ n r e (record { same = refl; kept = y })
noted_step empty t l q p n r e y z = still q p l _ _ n r e (record { same = refl; kept = y })
noted_step all t l q p n r e y z = still q p l _ _ n r e (record { same = refl; kept = y })
noted_step whole t l q p n r e y z = still q p l _ _ n r e (record { same = refl; kept = y })
noted_step close t l q p n r e y z =
    turned q 2 p 1 l _ _ n r e y z
    (λ i j. let o = length-append l.items (item_of l ∷ []) in record {
      same = ap (λ (x : ℕ). entry_counts l.cells ++ x ∷ r) (omega arith);
      kept = λ f. let k = i refl in omega arith;
    })

simply : (c : Cls) (t : Placed) (a : Act) (q p : ℕ) (l : Log) (n : ℕ) (r : List ℕ) (d₀ d : Book) → Step q l p d₀.log a n r →
    pick (overlong c t) (bad 8 t.start) (fine d₀) ≡ fine d → Step q l p d.log a n r
simply c t a q p l n r d₀ d h e =
    subst (λ (x : Book). Step q l p x.log a n r) (fine_inj (pick_fine (overlong c t) 8 t.start (fine d₀) d e).1) h

one-step : (b : Book) (c : Cls) (a : Act) (t : Placed) (d : Book) (q p : ℕ) (n : ℕ) (r : List ℕ) → turns q a ≡ some p → judge_by b c a t ≡ fine d →
    Kept q b.log → (p ≡ 0 → n ≡ 0) → Step q b.log p d.log a n r
one-step b c (note k) t d q p n r h e y z = simply c t (note k) q p b.log n r _ d (noted_step k t b.log q p n r h y z) e
one-step b c (divide w) t d q p n r h e y z =
    simply c t (divide w) q p b.log n r _ d (still q p b.log _ _ n r h (record { same = refl; kept = y })) e
one-step b c scaled t d q p n r h e y z = simply c t scaled q p b.log n r _ d (still q p b.log _ _ n r h (record { same = refl; kept = y })) e
one-step b c unity t d q p n r h e y z = simply c t unity q p b.log n r _ d (still q p b.log _ _ n r h (record { same = refl; kept = y })) e
one-step b c joined t d q p n r h e y z = simply c t joined q p b.log n r _ d (still q p b.log _ _ n r h (record { same = refl; kept = y })) e
one-step b c cell t d q p n r h e y z =
    let (s, f) = pick_fine (overlong c t) 8 t.start _ d e in
    let (o, g) = pick_fine (eqb b.cell_room 0) 9 t.start _ d f in
    subst (λ (x : Book). Step q b.log p x.log cell n r) (fine_inj g)
    (turned q 0 p 1 b.log _ cell n r h y z
    (λ i j. record { same = ap (λ (x : ℕ). entry_counts b.log.cells ++ x ∷ r) (omega arith); kept = λ f. omega arith }))
one-step b c (entry k) t d q p n r h e y z =
    let (s, f) = pick_fine (overlong c t) 8 t.start _ d e in
    let (o, g) = pick_fine (eqb b.item_room 0) 9 t.start _ d f in
    subst (λ (x : Book). Step q b.log p x.log (entry k) n r) (fine_inj g)
    (turned q 1 p 2 b.log _ (entry k) n r h y z
    (λ i j. let u = i refl in record { same = ap (λ (x : ℕ). entry_counts b.log.cells ++ x ∷ r) (omega arith); kept = λ f. u }))
one-step b c (time s k) t d q p n r h e y z = by (number_of s b.unit t.bytes) e
  where
    by : (v : Result ℤ NotTime) → timed b c k t v ≡ fine d → Step q b.log p d.log (time s k) n r
    by (Ok u) e = simply c t (time s k) q p b.log n r _ d (still q p b.log _ _ n r h (record { same = refl; kept = y })) e
    by (Err y) e = absurd (refused≢fine b c k t y e)

-- outside the cells no entry comes before the next cell
outside_note : (k : Note) (p : ℕ) → leaves 0 k ≡ some p → p ≡ 0
outside_note skip p e = sym (some_inj e)
outside_note (heading k) p e = sym (some_inj e)
outside_note type p e = sym (some_inj e)
outside_note top p e = sym (some_inj e)
outside_note named p e = sym (some_inj e)
outside_note any p e = sym (some_inj e)
outside_note finish p e = absurd (none≢some p e)
outside_note (edged i) p e = sym (some_inj e)
outside_note (end i) p e = sym (some_inj e)
outside_note (plain i) p e = sym (some_inj e)
outside_note G.none p e = sym (some_inj e)
outside_note empty p e = sym (some_inj e)
outside_note all p e = sym (some_inj e)
outside_note whole p e = sym (some_inj e)
outside_note close p e = absurd (none≢some p e)

outside-step : (a : Act) (p n : ℕ) → turns 0 a ≡ some p → (p ≡ 0 → n ≡ 0) → one_on a n ≡ 0
outside-step (note k) p n e h = h (outside_note k p e)
outside-step (divide d) p n e h = h (sym (some_inj e))
outside-step scaled p n e h = h (sym (some_inj e))
outside-step unity p n e h = h (sym (some_inj e))
outside-step joined p n e h = h (sym (some_inj e))
outside-step cell p n e h = refl
outside-step (entry g) p n e h = absurd (none≢some p e)
outside-step (time s k) p n e h = h (sym (some_inj e))

none_ahead : (xs : List Taken) (q p : ℕ) → through moves every from to q (terms xs) ≡ some p → q ≡ 0 → ahead xs ≡ 0
unfolding through
none_ahead [] q p e z = refl
none_ahead (x ∷ xs) q p e z =
    let (o, i, j) = along_inv (moves q x.by) _ p e in
    outside-step x.by.act o (ahead xs) (kept_if (proper x.by.cls x.by.act) _ o (subst (λ (y : ℕ). moves y x.by ≡ some o) z i)).1
    (none_ahead xs o p j)

all_steps : (xs : List Taken) (b d : Book) (q p : ℕ) → through moves every from to q (terms xs) ≡ some p → tells b xs ≡ fine d → Kept q b.log →
    expected p d.log 0 [] ≡ expected q b.log (ahead xs) (per_cell xs)
unfolding through judges
all_steps [] b d q p h e y =
    ap (λ (x : Book). expected p x.log 0 []) (sym (fine_inj e)) ∙ ap (λ (x : ℕ). expected x b.log 0 []) (sym (some_inj h))
all_steps (x ∷ xs) b d q p h e y =
    let (o, i, j) = along_inv (moves q x.by) _ p h in
    let (c, f, g) = then_fine (judge b x.by x.tok) (λ z. tells z xs) d e in
    let s = one-step b x.by.cls x.by.act x.tok c q o (ahead xs) (per_cell xs) (kept_if (proper x.by.cls x.by.act) _ o i).1 f y
    (none_ahead xs o p j) in
    all_steps xs c d o p j g s.kept ∙ s.same

-- EACH CELL'S NUMBER OF ENTRIES
pub counted : (a : As) (xs : List Taken) (d : Book) → through moves every from to 0 (terms xs) ≡ some 0 → tells (starting a).book xs ≡ fine d →
    entry_counts d.log.cells ≡ per_cell xs
counted a xs d h e = sym (append-nil _) ∙ all_steps xs (starting a).book d 0 0 h e (λ f. zero-le)
