-- What a reading leaves lists each cell and each entry once, in file order, at its keyword's place.
-- Assumes nothing.
use Rattle.std.specs.Prelude.{◌≡◌, refl, Bool, true, false, List, [], ◌∷◌, ◌++◌, ℕ, eqb, ℤ, Result, Ok, Err}
use Rattle.std.proofs.Common.{sym, ap, subst, ◌∙◌, append-nil, append_assoc, eqb-true}
use Rattle.std.proofs.Math.Option.{none, some}
use Rattle.classes.specs.Choice.{pick}
use Rattle.tokens.specs.Stream.{Placed}
use Rattle.numbershape.specs.Value.{number_of}
use Rattle.numbershape.specs.declared.NotTime.{NotTime}
use Rattle.grammar.specs.Machine.{fine, bad, fine_inj, judges}
use Rattle.grammar.specs.Grammar.{Cls, Note, skip, heading, type, top, named, any, finish, edged, end, plain, empty, all, whole, close, Act, note, divide, scaled, unity, joined, cell, entry, time}
use Rattle.grammar.specs.Grammar as G
use Rattle.grammar.specs.declared.Cell.{Cell}
use Rattle.grammar.specs.Meaning.{Item, Log, Book, item_of, noted, overlong, refused≢fine, timed, judge, judge_by}
use Rattle.laws.specs.Walk.{through, along_inv, kept_if, some_inj}
use Rattle.laws.specs.Taken.{As, starting, Taken, terms, tells, opens_cell, opens_entry, those, cell_words, entry_words}
use Rattle.laws.specs.Phases.{leaves, turns, proper, moves, every, from, to}
use Rattle.laws.specs.Log.{starts}
use Rattle.laws.proofs.Judged.{pick_fine}
use Rattle.laws.proofs.Behind.{then_fine}

-- where the listed entries' keywords stand, and the listed cells'
abbrev pub item_places : List Item → List ℕ
item_places [] = []
item_places (i ∷ is) = i.head.place ∷ item_places is

abbrev pub cell_places : List Cell → List ℕ
cell_places [] = []
cell_places (c ∷ cs) = c.place ∷ cell_places cs

-- with the entry and the cell in hand: in an entry (2), and where it is not outside the cells (0)
abbrev entries_so_far : ℕ → Log → List ℕ
entries_so_far q l = item_places l.items ++ pick (eqb q 2) (l.head.place ∷ []) []

abbrev cells_so_far : ℕ → Log → List ℕ
cells_so_far q l = cell_places l.cells ++ pick (eqb q 0) [] (l.begun.place ∷ [])

-- two logs tell of the same cells and entries
record Same (q : ℕ) (l : Log) (p : ℕ) (m : Log) : Type 0 where
  entries : entries_so_far p m ≡ entries_so_far q l
  cells : cells_so_far p m ≡ cells_so_far q l

still : (q p : ℕ) (l m : Log) → some q ≡ some p → Same q l q m → Same q l p m
still q p l m e h = subst (λ (x : ℕ). Same q l x m) (some_inj e) h

turned : (q k p r : ℕ) (l m : Log) → pick (eqb q k) (some r) none ≡ some p → Same k l r m → Same q l p m
turned q k p r l m e h =
    let (v, f) = kept_if (eqb q k) (some r) p e in
    subst (λ (x : ℕ). Same x l p m) (sym (eqb-true q k v)) (subst (λ (x : ℕ). Same k l x m) (some_inj f) h)

items_more : (is : List Item) (i : Item) → item_places (is ++ i ∷ []) ≡ item_places is ++ i.head.place ∷ []
items_more [] i = refl
items_more (x ∷ is) i = ap (λ (l : List ℕ). x.head.place ∷ l) (items_more is i)

cells-more : (cs : List Cell) (c : Cell) → cell_places (cs ++ c ∷ []) ≡ cell_places cs ++ c.place ∷ []
cells-more [] c = refl
cells-more (x ∷ cs) c = ap (λ (l : List ℕ). x.place ∷ l) (cells-more cs c)

noted-same : (n : Note) (t : Placed) (l : Log) (q p : ℕ) → leaves q n ≡ some p → Same q l p (noted n t l)
noted-same skip t l q p e = still q p l _ e (record { entries = refl; cells = refl })
noted-same (heading k) t l q p e = still q p l _ e (record { entries = refl; cells = refl })
noted-same type t l q p e = still q p l _ e (record { entries = refl; cells = refl })
noted-same top t l q p e = still q p l _ e (record { entries = refl; cells = refl })
noted-same named t l q p e = still q p l _ e (record { entries = refl; cells = refl })
noted-same any t l q p e = still q p l _ e (record { entries = refl; cells = refl })
noted-same finish t l q p e = turned q 1 p 0 l _ e (record { entries = refl; cells = append-nil _ ∙ cells-more l.cells _ })
noted-same (edged true) t l q p e = still q p l _ e (record { entries = refl; cells = refl })
noted-same (edged false) t l q p e = still q p l _ e (record { entries = refl; cells = refl })
noted-same (end true) t l q p e = still q p l _ e (record { entries = refl; cells = refl })
noted-same (end false) t l q p e = still q p l _ e (record { entries = refl; cells = refl })
noted-same (plain true) t l q p e = still q p l _ e (record { entries = refl; cells = refl })
noted-same (plain false) t l q p e = still q p l _ e (record { entries = refl; cells = refl })
noted-same G.none t l q p e = still q p l _ e (record { entries = refl; cells = refl })
noted-same empty t l q p e = still q p l _ e (record { entries = refl; cells = refl })
noted-same all t l q p e = still q p l _ e (record { entries = refl; cells = refl })
noted-same whole t l q p e = still q p l _ e (record { entries = refl; cells = refl })
noted-same close t l q p e = turned q 2 p 1 l _ e (record { entries = append-nil _ ∙ items_more l.items (item_of l); cells = refl })

-- the log behind a token: its cell and its entry more
record More (q : ℕ) (l : Log) (p : ℕ) (m : Log) (a : Act) (t : Placed) : Type 0 where
  entries : entries_so_far p m ≡ entries_so_far q l ++ starts (pick (opens_entry a) (t ∷ []) [])
  cells : cells_so_far p m ≡ cells_so_far q l ++ starts (pick (opens_cell a) (t ∷ []) [])

no_more : (q p : ℕ) (l m : Log) (a : Act) (t : Placed) → opens_cell a ≡ false → opens_entry a ≡ false → Same q l p m → More q l p m a t
no_more q p l m a t c i h = record { entries = rw (i, append-nil) h.entries; cells = rw (c, append-nil) h.cells }

turned_more : (q k p r : ℕ) (l m : Log) (a : Act) (t : Placed) → pick (eqb q k) (some r) none ≡ some p → More k l r m a t → More q l p m a t
turned_more q k p r l m a t e h =
    let (v, f) = kept_if (eqb q k) (some r) p e in
    subst (λ (x : ℕ). More x l p m a t) (sym (eqb-true q k v)) (subst (λ (x : ℕ). More k l x m a t) (some_inj f) h)

-- a token that passes where only its length is judged
simply : (c : Cls) (t : Placed) (a : Act) (q p : ℕ) (l : Log) (d₀ d : Book) → More q l p d₀.log a t →
    pick (overlong c t) (bad 8 t.start) (fine d₀) ≡ fine d → More q l p d.log a t
simply c t a q p l d₀ d h e =
    subst (λ (x : Book). More q l p x.log a t) (fine_inj (pick_fine (overlong c t) 8 t.start (fine d₀) d e).1) h

quietly : (b : Book) (c : Cls) (a : Act) (t : Placed) (d₀ d : Book) (q p : ℕ) → opens_cell a ≡ false → opens_entry a ≡ false → some q ≡ some p →
    Same q b.log q d₀.log → pick (overlong c t) (bad 8 t.start) (fine d₀) ≡ fine d → More q b.log p d.log a t
quietly b c a t d₀ d q p i j h s e = simply c t a q p b.log d₀ d (no_more q p b.log d₀.log a t i j (still q p b.log d₀.log h s)) e

one_more : (b : Book) (c : Cls) (a : Act) (t : Placed) (d : Book) (q p : ℕ) → turns q a ≡ some p → judge_by b c a t ≡ fine d →
    More q b.log p d.log a t
one_more b c (note n) t d q p h e =
    simply c t (note n) q p b.log _ d (no_more q p b.log _ (note n) t refl refl (noted-same n t b.log q p h)) e
one_more b c (divide w) t d q p h e = quietly b c (divide w) t _ d q p refl refl h (record { entries = refl; cells = refl }) e
one_more b c scaled t d q p h e = quietly b c scaled t _ d q p refl refl h (record { entries = refl; cells = refl }) e
one_more b c unity t d q p h e = quietly b c unity t _ d q p refl refl h (record { entries = refl; cells = refl }) e
one_more b c joined t d q p h e = quietly b c joined t _ d q p refl refl h (record { entries = refl; cells = refl }) e
one_more b c cell t d q p h e =
    let (s, f) = pick_fine (overlong c t) 8 t.start _ d e in
    let (r, g) = pick_fine (eqb b.cell_room 0) 9 t.start _ d f in
    subst (λ (x : Book). More q b.log p x.log cell t) (fine_inj g)
    (turned_more q 0 p 1 b.log _ cell t h
    (record { entries = sym (append-nil _); cells = ap (λ (x : List ℕ). x ++ t.start ∷ []) (sym (append-nil (cell_places b.log.cells))) }))
one_more b c (entry k) t d q p h e =
    let (s, f) = pick_fine (overlong c t) 8 t.start _ d e in
    let (r, g) = pick_fine (eqb b.item_room 0) 9 t.start _ d f in
    subst (λ (x : Book). More q b.log p x.log (entry k) t) (fine_inj g)
    (turned_more q 1 p 2 b.log _ (entry k) t h
    (record { entries = ap (λ (x : List ℕ). x ++ t.start ∷ []) (sym (append-nil (item_places b.log.items))); cells = sym (append-nil _) }))
one_more b c (time s k) t d q p h e = by (number_of s b.unit t.bytes) e
  where
    by : (n : Result ℤ NotTime) → timed b c k t n ≡ fine d → More q b.log p d.log (time s k) t
    by (Ok z) e = quietly b c (time s k) t _ d q p refl refl h (record { entries = refl; cells = refl }) e
    by (Err y) e = absurd (refused≢fine b c k t y e)

starts-cons : (f : Act → Bool) (x : Taken) (xs : List Taken) → starts (those f (x ∷ xs)) ≡ starts (those f (x ∷ [])) ++ starts (those f xs)
starts-cons f x xs = by (f x.by.act)
  where
    by : (v : Bool) → starts (pick v (x.tok ∷ those f xs) (those f xs)) ≡ starts (pick v (x.tok ∷ []) []) ++ starts (those f xs)
    by true = refl
    by false = refl

all_more : (xs : List Taken) (b d : Book) (q p : ℕ) → through moves every from to q (terms xs) ≡ some p → tells b xs ≡ fine d →
    (entries_so_far p d.log ≡ entries_so_far q b.log ++ starts (entry_words xs)) ×
    (cells_so_far p d.log ≡ cells_so_far q b.log ++ starts (cell_words xs))
unfolding through judges
all_more [] b d q p h e =
    let z = subst (λ (x : Book). Same q b.log p x.log) (fine_inj e)
    (still q p b.log b.log h (record { entries = refl; cells = refl })) in
    (z.entries ∙ sym (append-nil _), z.cells ∙ sym (append-nil _))
all_more (x ∷ xs) b d q p h e =
    let (o, i, j) = along_inv (moves q x.by) _ p h in
    let (c, f, g) = then_fine (judge b x.by x.tok) (λ y. tells y xs) d e in
    let u = one_more b x.by.cls x.by.act x.tok c q o (kept_if (proper x.by.cls x.by.act) _ o i).1 f in
    let (w, z) = all_more xs c d o p j g in
    (chained opens_entry _ _ (entries_so_far q b.log) u.entries w, chained opens_cell _ _ (cells_so_far q b.log) u.cells z)
  where
    chained : (f : Act → Bool) (r m l : List ℕ) → m ≡ l ++ starts (those f (x ∷ [])) → r ≡ m ++ starts (those f xs) →
        r ≡ l ++ starts (those f (x ∷ xs))
    chained f r m l a b =
        b ∙ (ap (λ (e : List ℕ). e ++ starts (those f xs)) a ∙ (append_assoc l _ _ ∙ ap (λ (e : List ℕ). l ++ e) (sym (starts-cons f x xs))))

-- EACH CELL AND EACH ENTRY ONCE, in file order
pub listed : (a : As) (xs : List Taken) (d : Book) → through moves every from to 0 (terms xs) ≡ some 0 → tells (starting a).book xs ≡ fine d →
    (item_places d.log.items ≡ starts (entry_words xs)) × (cell_places d.log.cells ≡ starts (cell_words xs))
listed a xs d h e = let (u, v) = all_more xs (starting a).book d 0 0 h e in (sym (append-nil _) ∙ u, sym (append-nil _) ∙ v)
